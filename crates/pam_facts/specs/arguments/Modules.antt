-- The modules of the table, a line each: `NAME KIND,.. REACTION[@KIND,..] [ARGUMENT ..]`.
use Rattle.std.specs.Prelude.{ℕ, List, [], Option, Some, None, codes, if◌then◌else◌, length, map, take, ◌-◌}
use Rattle.std.specs.Option.{option_map_or}
use Rattle.std.specs.Str.{bytes_eq}
use Rattle.pam_spelling.specs.Nearest.{nearest}
use Rattle.pam_facts.specs.arguments.Cuts.{after, before, parts_of}
use Rattle.pam_facts.specs.arguments.Rows.{Row, row_of}
use Rattle.pam_facts.specs.arguments.Verdicts.{Module}
use Rattle.pam_facts.specs.declared.arguments.verdict.Reaction.{Reaction}
use Rattle.pam_facts.specs.declared.arguments.verdict.Reaction.TheVariants.{Fails, Ignores, Logs}

-- what a module does with a word that it does not know; with `free` it takes any
unfoldable pub reaction_named : List ℕ → Option Reaction
reaction_named word =
    if bytes_eq word (codes "ignores") then Some Ignores
    else if bytes_eq word (codes "logs") then Some Logs
    else if bytes_eq word (codes "fails") then Some Fails
    else None

-- the rows of the words of a line, if there are some
abbrev pub rows_in : Option (List ℕ) → List Row
rows_in text = option_map_or (λ words. map row_of (parts_of 32 words)) text []

abbrev pub or_empty : Option (List ℕ) → List ℕ
or_empty text = option_map_or (λ t. t) text []

-- THE MODULE of a line, from the word after its name
unfoldable pub module_of : List ℕ → Module
module_of text =
    let words = or_empty (after 32 text) in
    let reaction = before 32 words in
    record {
      kinds = before 32 text;
      reaction = reaction_named (before 64 reaction);
      reacts_in = after 64 reaction;
      rows = rows_in (after 32 words);
    }

-- THE ARGUMENTS of a module, in order
abbrev pub arguments_of : Module → List (List ℕ)
arguments_of known = map (λ row. row.argument) known.rows

-- the name of an argument: the word up to its first `=`, and with it
abbrev pub name_part : List ℕ → List ℕ
name_part word = option_map_or (λ value. take (length word - length value) word) (after 61 word) word

-- THE ARGUMENT that a misspelled word is nearest to
abbrev pub nearest_argument : Module → List ℕ → Option (List ℕ)
nearest_argument known word = nearest (arguments_of known) (name_part word)
