use Rattle.std.proofs.Common.{◌∙◌, nat_eq, sym, ap}
use Rattle.std.specs.List.{list_any, starts_with}
use Rattle.std.specs.Str.{bytes_eq}
use Rattle.pam_facts.specs.known.Answers.{has_key, is_reader, name_of_path}
use Rattle.pam_facts.proofs.KnownProofs.ReaderSteps.{reader_is}
use Rattle.pam_facts.proofs.known.answers.is_reader.Goals as goal

pub returns-then-eq : goal.returns-then-eq
unfolding is_reader has_key
returns-then-eq c =
    let key = c.args.key.now in
    reader_is (bytes_eq (name_of_path c.args.module.now.path.items) c.args.name.now) c.has_key.result
    (list_any (λ a. starts_with nat_eq a key) c.args.module.now.arguments)
    (ap (λ p. bytes_eq p c.args.name.now) (sym (c.name_of_path.ensures ∙ ap name_of_path c.deref.ensures.value)) ∙ sym c.eq.ensures ∙ c.if-eq.true)
    c.has_key.ensures
