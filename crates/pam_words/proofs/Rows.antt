-- Rows of the table of commands, and the commands that are built of them.
use Rattle.std.proofs.Common.{◌≡◌, ◌++◌, ◌∙◌, Bool, List, [], ◌∷◌, Option, Some, None, true, false, refl, ap, ap₂}
use Rattle.std.proofs.Common.{bytes_eq, find, if◌then◌else◌, map, option_map}
use Rattle.std.specs.Option.{option_or}
use Rattle.std.specs.Borrow.{Bor}
use Rattle.clap.specs.Words.{App, Shape, Text}
use Rattle.pam_words.specs.inner.Building.{IsRowOf, is_named, rule_of_argument, shape_of_row, with_args}
use Rattle.pam_words.specs.declared.arguments.Argument.{Argument}
use Rattle.pam_words.specs.declared.commands.CommandRow.{CommandRow}
use Rattle.clap.specs.Words.{with_rule}

-- arguments leave the name of a command as it is
args-name : (app : App) (args : List Argument) → (with_args app args).top.name ≡ app.top.name
args-name app [] = refl
args-name app (arg ∷ args) = args-name (with_rule app (rule_of_argument arg)) args

abbrev pub has_name : Text → CommandRow → Bool
has_name name row = bytes_eq row.name.now name

same-name : (name : Text) (row : CommandRow) → is_named name (shape_of_row row) ≡ has_name name row
same-name name row = ap (λ text. bytes_eq text name) (args-name _ row.args.now)

find-shapes : (name : Text) (rows : List CommandRow) → option_map shape_of_row (find (has_name name) rows) ≡ find (is_named name) (map shape_of_row rows)
find-shapes name [] = refl
find-shapes name (row ∷ rows) = by (has_name name row) (is_named name (shape_of_row row)) (same-name name row) (find-shapes name rows)
  where
    by : (b c : Bool) → c ≡ b → option_map shape_of_row (find (has_name name) rows) ≡ find (is_named name) (map shape_of_row rows)
        → option_map shape_of_row (if b then Some row else find (has_name name) rows)
        ≡ (if c then Some (shape_of_row row) else find (is_named name) (map shape_of_row rows))
    by true true same again = refl
    by false false same again = again
    by true false same again = cc
    by false true same again = cc

abbrev pub shape_at : Bor CommandRow → Shape
shape_at row = shape_of_row row.now

now-shapes : (r : Option (Bor CommandRow)) → option_map shape_at r ≡ option_map shape_of_row (option_map (λ row. row.now) r)
now-shapes None = refl
now-shapes (Some row) = refl

-- the row of one of these commands
pub record IsOneOf (name : Text) (shapes : List Shape) (r : Option (Bor CommandRow)) : Type 0 where
  pub found : option_map shape_at r ≡ find (is_named name) shapes

pub in-table : (name : Text) (rows : List CommandRow) (r : Option (Bor CommandRow)) → IsRowOf name rows r → IsOneOf name (map shape_of_row rows) r
unfolding IsRowOf
in-table name rows r e = record { found = now-shapes r ∙ ap (option_map shape_of_row) e ∙ find-shapes name rows }

find-append : (test : Shape → Bool) (xs ys : List Shape) → option_or (find test xs) (find test ys) ≡ find test (xs ++ ys)
find-append test [] ys = refl
find-append test (x ∷ xs) ys = by (test x) (find-append test xs ys)
  where
    by : (b : Bool) → option_or (find test xs) (find test ys) ≡ find test (xs ++ ys)
        → option_or (if b then Some x else find test xs) (find test ys) ≡ (if b then Some x else find test (xs ++ ys))
    by true again = refl
    by false again = again

or-shapes : (a b : Option (Bor CommandRow)) → option_map shape_at (option_or a b) ≡ option_or (option_map shape_at a) (option_map shape_at b)
or-shapes None b = refl
or-shapes (Some row) b = refl

-- the row of a command of the first table or of the second
pub in-either : {name : Text} {xs ys : List Shape} {o a b : Option (Bor CommandRow)} → o ≡ option_or a b → IsOneOf name xs a → IsOneOf name ys b
    → IsOneOf name (xs ++ ys) o
in-either {name} {xs} {ys} {o} {a} {b} e first second = record {
  found = ap (option_map shape_at) e ∙ or-shapes a b ∙ ap₂ {A = Option Shape} {B = Option Shape} {C = Option Shape} option_or first.found second.found
      ∙ find-append (is_named name) xs ys;
}
