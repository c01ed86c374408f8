use Rattle.std.proofs.Common.{◌≡◌, ℕ, List, [], ◌++◌, codes, map, ap, ◌∙◌}
use Rattle.std.specs.Prelude.{decimal}
use Rattle.std.specs.Char.{to_ascii_lowercase}
use Rattle.pam_codes.proofs.Writing.{writes-is, writes-then}
use Rattle.pam_conf.specs.declared.rule.Kind.{Kind}
use Rattle.pam_render.specs.text.Header.{header_text, kind_name}
use Rattle.pam_render.proofs.text.header.put_header.Goals as goal

-- the text after the service
abbrev after_service : List ℕ → ℕ → List ℕ
after_service name modules = codes " " ++ (name ++ (codes " " ++ (decimal modules ++ (codes " modules\n" ++ []))))

header : (service : List ℕ) (kind : Kind) (modules : ℕ) (bytes name : List ℕ) → bytes ≡ service → name ≡ kind_name kind
    → map to_ascii_lowercase bytes ++ after_service name modules ≡ header_text service kind modules
unfolding header_text
header service kind modules bytes name e f =
    ap (λ l. map to_ascii_lowercase l ++ after_service name modules) e ∙ ap (λ l. map to_ascii_lowercase service ++ after_service l modules) f

pub returns : goal.returns
returns g c =
    writes-is _ _ _ (map to_ascii_lowercase c.as_bytes.result.now ++ after_service c.as_bytes-2.result.now c.args.modules) _ c.put_line.result
    (writes-then _ _ _ c.in_ok-put_lowercase.ensures c.put_line.ensures)
    (header c.args.service.now c.args.kind c.args.modules c.as_bytes.result.now c.as_bytes-2.result.now c.as_bytes.ensures.value
    (c.as_bytes-2.ensures.value ∙ c.kind_name.ensures))
