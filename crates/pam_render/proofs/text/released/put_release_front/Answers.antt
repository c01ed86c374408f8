use Rattle.std.proofs.Common.{◌≡◌, List, ℕ, [], ◌++◌, codes, map, ap, ◌∙◌}
use Rattle.std.specs.Char.{to_ascii_lowercase}
use Rattle.pam_codes.proofs.Writing.{writes-is, writes-then}
use Rattle.pam_conf.specs.declared.rule.Kind.{Kind}
use Rattle.pam_words.specs.declared.wanted.ReleaseName.{ReleaseName}
use Rattle.pam_render.specs.text.Header.{kind_name}
use Rattle.pam_render.specs.text.Released.{release_front, release_text}
use Rattle.pam_render.proofs.text.released.put_release_front.Goals as goal

-- the text after the service
abbrev after_service : List ℕ → List ℕ → List ℕ
after_service name release = codes " " ++ (name ++ (codes " as " ++ (release ++ [])))

front : (service : List ℕ) (kind : Kind) (release : ReleaseName) (bytes name text : List ℕ) → bytes ≡ service → name ≡ kind_name kind
    → text ≡ release_text release → map to_ascii_lowercase bytes ++ after_service name text ≡ release_front service kind release
unfolding release_front
front service kind release bytes name text e f h =
    ap (λ l. map to_ascii_lowercase l ++ after_service name text) e ∙ ap (λ l. map to_ascii_lowercase service ++ after_service l text) f
    ∙ ap (λ l. map to_ascii_lowercase service ++ after_service (kind_name kind) l) h

pub returns : goal.returns
returns g c =
    let reply = c.args.reply.now in
    writes-is _ _ _ (map to_ascii_lowercase c.as_bytes.result.now ++ after_service c.as_bytes-2.result.now c.release_text.result.now) _ c.put_line.result
    (writes-then _ _ _ c.in_ok-put_lowercase.ensures c.put_line.ensures)
    (front reply.service.now reply.kind reply.release c.as_bytes.result.now c.as_bytes-2.result.now c.release_text.result.now
    c.as_bytes.ensures.value (c.as_bytes-2.ensures.value ∙ c.kind_name.ensures) c.release_text.ensures)
