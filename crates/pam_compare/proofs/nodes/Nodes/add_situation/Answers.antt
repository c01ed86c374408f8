use Rattle.std.proofs.Common.{◌∙◌, ◌+◌, List, ap, inl, inr, length, refl, sym}
use Rattle.std.specs.Prelude.{slice_get}
use Rattle.std.proofs.lemmas.List.{length_push}
use Rattle.pam_compare.specs.declared.nodes.Way.{Way}
use Rattle.pam_compare.specs.declared.situation.Situation.{Situation}
use Rattle.pam_compare.proofs.Growing.{insert-keeps, insert-new, insert-old, keeps-push, keeps-same, pushed-cases}
use Rattle.pam_compare.specs.inner.Held.{same_situation}
use Rattle.pam_compare.proofs.Sameness.{same-is}
use Rattle.pam_compare.proofs.nodes.Nodes.add_situation.Goals as goal

pub returns-in_ok-push-clause-keeps : goal.returns-in_ok-push-clause-keeps
returns-in_ok-push-clause-keeps c =
    insert-keeps (same_situation c.args.situation) c.args.self.now.situations.keys _ c.args.situation c.in_ok-index.ensures.keys

pub returns-else-is_new-clause-keeps : goal.returns-else-is_new-clause-keeps
returns-else-is_new-clause-keeps c =
    insert-keeps (same_situation c.args.situation) c.args.self.now.situations.keys _ c.args.situation c.in_ok-index.ensures.keys

pub returns-in_ok-push-clause-ways : goal.returns-in_ok-push-clause-ways
returns-in_ok-push-clause-ways c = keeps-push c.args.self.now.ways.items c.args.way _ c.in_ok-push.ensures.items

pub returns-else-is_new-clause-ways : goal.returns-else-is_new-clause-ways
returns-else-is_new-clause-ways c = keeps-same _

pub returns-in_ok-push-clause-count : goal.returns-in_ok-push-clause-count
returns-in_ok-push-clause-count c same =
    let keys = insert-new (same_situation c.args.situation) c.args.self.now.situations.keys _ c.args.situation c.in_ok-index.ensures.keys
    (sym c.if-is_new.true ∙ c.in_ok-index.ensures.added) in
    ap (λ (l : List Way). length l) c.in_ok-push.ensures.items ∙ length_push c.args.self.now.ways.items c.args.way ∙ ap (λ n. n + 1) same
    ∙ sym (length_push c.args.self.now.situations.keys c.args.situation) ∙ sym (ap (λ (l : List Situation). length l) keys)

pub returns-else-is_new-clause-count : goal.returns-else-is_new-clause-count
returns-else-is_new-clause-count c same =
    let keys = insert-old (same_situation c.args.situation) c.args.self.now.situations.keys _ c.args.situation c.in_ok-index.ensures.keys
    (sym c.if-is_new.false ∙ c.in_ok-index.ensures.added) in
    same ∙ sym (ap (λ (l : List Situation). length l) keys)

pub returns-in_ok-push-clause-added : goal.returns-in_ok-push-clause-added
returns-in_ok-push-clause-added c =
    let keys = insert-new (same_situation c.args.situation) c.args.self.now.situations.keys _ c.args.situation c.in_ok-index.ensures.keys
    (sym c.if-is_new.true ∙ c.in_ok-index.ensures.added) in
    pushed-cases c.args.self.now.situations.keys _ c.args.situation keys c.in_ok-push.ensures.items

pub returns-else-is_new-clause-added : goal.returns-else-is_new-clause-added
returns-else-is_new-clause-added c k s at =
    let keys = insert-old (same_situation c.args.situation) c.args.self.now.situations.keys _ c.args.situation c.in_ok-index.ensures.keys
    (sym c.if-is_new.false ∙ c.in_ok-index.ensures.added) in
    inl (sym (ap (λ (l : List Situation). slice_get l k) keys) ∙ at)

pub returns-in_ok-push-clause-found : goal.returns-in_ok-push-clause-found
returns-in_ok-push-clause-found c =
    let s = c.in_ok-index.ensures.stored in
    (s.0, s.1, same-is s.0 c.args.situation s.2)

pub returns-else-is_new-clause-found : goal.returns-else-is_new-clause-found
returns-else-is_new-clause-found c =
    let s = c.in_ok-index.ensures.stored in
    (s.0, s.1, same-is s.0 c.args.situation s.2)

pub returns-in_ok-push-clause-more : goal.returns-in_ok-push-clause-more
returns-in_ok-push-clause-more c = inr c.in_ok-push.ensures.items

pub returns-else-is_new-clause-more : goal.returns-else-is_new-clause-more
returns-else-is_new-clause-more c = inl refl
