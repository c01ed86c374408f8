use Rattle.std.proofs.Common.{is_some, ◌≡◌, ◌<◌, ◌+◌, ◌-◌, ◌∷◌, [], ℕ, List, Option, Some, None, Bor}
use Rattle.std.proofs.Common.{length, drop, map, subst, ap, sym, ◌∙◌, refl, arith, length-append}
use Rattle.std.specs.Option.{option_map}
use Rattle.std.proofs.lemmas.List.{drop_all}
use Rattle.std.proofs.lemmas.Result.{err_from_is_err_and}
use Rattle.pam_conf.specs.Files.{position_of}
use Rattle.pam_conf.specs.ItemsOf.{items_of}
use Rattle.pam_conf.specs.inner.Progress.{Walks, count_of, reads_by}
use Rattle.pam_conf.specs.inner.ByKind.{picked}
use Rattle.pam_conf.specs.inner.Kept.{kept_view, kept_body}
use Rattle.pam_conf.specs.Rule.{Include, Sub}
use Rattle.pam_conf.specs.Stack.{ModuleText, joined, ThenModule, End}
use Rattle.pam_conf.specs.Walk.{Walk, deeper, rule_walk, rules_at}
use Rattle.pam_conf.specs.declared.rule_files.FileRules.{FileRules}
use Rattle.pam_conf.specs.declared.trail.TheConstants.{MAX_OPEN_FILES}
use Rattle.pam_conf.specs.declared.walk.Walker.{Walker}
use Rattle.pam_conf.proofs.StackTree.{items_of-push_module, items_of-push_sub}
use Rattle.pam_conf.proofs.KindLemmas.{rule-lent}
use Rattle.pam_conf.proofs.KindWalks as kinds
use Rattle.pam_conf.proofs.RuleWalks as rules
use Rattle.pam_conf.proofs.WalkLemmas as lemmas
use Rattle.pam_conf.proofs.TableLemmas.{has_read, stored, table-set, taken, unread-fault, unread-rules}
use Rattle.pam_conf.proofs.walk.Walker.+walk.Goals as goal
use Rattle.pam_conf.proofs.walk.Walker.+walk.Goals.{walk_found-in-Some+in_ok-walk_rule, walk_found-in_default}

abbrev service_of : Option (Bor (List ℕ)) → Option (List ℕ)
service_of s = option_map (λ b. b.now) s

-- FOLLOW

pub follow-returns-in-Err-clause-walked : goal.follow-returns-in-Err-clause-walked
follow-returns-in-Err-clause-walked t c =
    lemmas.meets c.args.self.now.files.now (reads_by c.args.self.now.files.now c.args.self.now.read) c.args.self.now.kind
    (service_of c.args.self.now.service) (is_some c.args.self.now.read) (count_of c.args.progress.now) (count_of c.meet.new.progress)
    (items_of c.args.items.now.items) c.args.at.file c.args.at.line _ c.in-Err.kind c.meet.result c.in-Err.ensures.fault c.meet.ensures.noted
    c.meet.ensures.ended

pub follow-returns-then-progress-eq-MAX_FOLLOWS-clause-walked : goal.follow-returns-then-progress-eq-MAX_FOLLOWS-clause-walked
follow-returns-then-progress-eq-MAX_FOLLOWS-clause-walked t c =
    lemmas.too_many_followed c.args.self.now.files.now (reads_by c.args.self.now.files.now c.args.self.now.read) c.args.self.now.kind
    (service_of c.args.self.now.service)
    (is_some c.args.self.now.read) (count_of c.args.progress.now) c.args.at.file c.args.at.line c.args.trail.now
    (position_of c.args.target.now c.args.self.now.files.now.entries)
    c.in-Ok.position c.fault.result c.in-Ok.ensures.found.0 c.in-Ok.ensures.found.1 c.in-Ok.ensures.found.2
    c.if-progress-eq-MAX_FOLLOWS.true c.fault.ensures

pub follow-walk_file-requires : goal.follow-walk_file-requires
follow-walk_file-requires t c =
    let longer : length c.with-longer.result ≡ length c.args.trail.now + 1 = ap length c.with-longer.ensures
    ∙ length-append c.args.trail.now (c.in-Ok.position ∷ []) in
    let free : MAX_OPEN_FILES - length c.args.trail.now ≡ 0 → ⊥ = c.in-Ok.ensures.found.2 in
    (omega arith, (c.requires.table, lemmas.position-within c.args.target.now c.args.self.now.files.now c.in-Ok.position c.in-Ok.ensures.found.0))

pub follow-returns-in_err-walk_file-clause-walked : goal.follow-returns-in_err-walk_file-clause-walked
follow-returns-in_err-walk_file-clause-walked t c =
    let p = err_from_is_err_and c.from_residual-in_err-walk_file.result c.from_residual-in_err-walk_file.ensures.1 in
    rw (p.1, p.2) (lemmas.follow-refused c.args.self.now.files.now (reads_by c.args.self.now.files.now c.args.self.now.read) c.args.self.now.kind
    (service_of c.args.self.now.service)
    (is_some c.args.self.now.read) (count_of c.args.progress.now) _ (count_of c.walk_file.new.progress) c.args.at.file c.args.at.line
    c.args.trail.now c.with-longer.result
    (position_of c.args.target.now c.args.self.now.files.now.entries) c.in-Ok.position c.in_err-walk_file.field-0.0
    c.in-Ok.ensures.found.0 c.in-Ok.ensures.found.1 c.in-Ok.ensures.found.2 c.if-progress-eq-MAX_FOLLOWS.false c.with-longer.ensures
    (ap (lemmas.reached_by (count_of c.args.progress.now)) c.in_ok-reach.ensures) c.in_err-walk_file.ensures.walked)

pub follow-returns-clause-walked : goal.follow-returns-clause-walked
follow-returns-clause-walked t c =
    lemmas.follow-done c.args.self.now.files.now (reads_by c.args.self.now.files.now c.args.self.now.read) c.args.self.now.kind
    (service_of c.args.self.now.service)
    (is_some c.args.self.now.read) (count_of c.args.progress.now) _ (count_of c.walk_file.new.progress) c.args.at.file c.args.at.line
    (items_of c.args.items.now.items) (items_of c.walk_file.new.items.items) c.args.trail.now c.with-longer.result
    (position_of c.args.target.now c.args.self.now.files.now.entries) c.in-Ok.position c.in-Ok.ensures.found.0 c.in-Ok.ensures.found.1
    c.in-Ok.ensures.found.2 c.if-progress-eq-MAX_FOLLOWS.false c.with-longer.ensures
    (ap (lemmas.reached_by (count_of c.args.progress.now)) c.in_ok-reach.ensures) c.in_ok-walk_file.ensures.walked

-- A FILE

pub walk_file-returns-in-Some-get-clause-walked : goal.walk_file-returns-in-Some-get-clause-walked
walk_file-returns-in-Some-get-clause-walked t c =
    subst (λ (w : Walk). Walks (is_some c.args.self.now.read) (count_of c.args.progress.now) (items_of c.args.items.now.items) w
    (count_of c.walk_found.new.progress) (items_of c.walk_found.new.items.items) c.walk_found.result)
    (kinds.found-walk c.args.self.now.files.now c.args.self.now.read c.args.self.now.kind (service_of c.args.self.now.service) c.args.trail.now
    c.in-Some.read c.args.file c.in-Some-get.found c.in-Some.is
    (has_read c.args.self.now.files.now c.args.self.now.kind c.args.self.now.read c.in-Some.read _ c.in-Some.is c.requires.table)
    c.in-Some-get.ensures.lookup) c.walk_found.ensures.walked

pub walk_file-returns-in_err-rules-in-None-clause-walked : goal.walk_file-returns-in_err-rules-in-None-clause-walked
walk_file-returns-in_err-rules-in-None-clause-walked t c =
    let p = err_from_is_err_and c.from_residual.result c.from_residual.ensures.1 in
    rw (p.1, p.2) (lemmas.file-refused c.args.self.now.files.now (reads_by c.args.self.now.files.now c.args.self.now.read) c.args.self.now.kind
    (service_of c.args.self.now.service) (is_some c.args.self.now.read)
    (count_of c.args.progress.now) (MAX_OPEN_FILES - length c.args.trail.now) c.args.trail.now c.args.file c.in_err-rules-in-None.field-0.0
    (ap is_some c.in-None.is) (unread-fault _ _ c.args.self.now.kind c.args.file _ c.in-None.is c.in_err-rules-in-None.ensures.rules))

pub walk_file-walk_rules-requires : goal.walk_file-walk_rules-requires
walk_file-walk_rules-requires t c = (omega arith, stored _ _ _ _ c.in-None.is c.take_rules.ensures.table)

pub walk_file-returns-in_err-walk_rules-in-None-clause-walked : goal.walk_file-returns-in_err-walk_rules-in-None-clause-walked
walk_file-returns-in_err-walk_rules-in-None-clause-walked t c =
    let p = err_from_is_err_and c.from_residual-in_err-walk_rules-in-None.result c.from_residual-in_err-walk_rules-in-None.ensures.1 in
    rw (p.1, p.2) (lemmas.file-rules_refused c.args.self.now.files.now (reads_by c.args.self.now.files.now c.args.self.now.read) c.args.self.now.kind
    (service_of c.args.self.now.service) (is_some c.args.self.now.read)
    (count_of c.args.progress.now) (count_of c.walk_rules.new.progress) c.args.trail.now c.args.file c.in_ok-rules-in-None.rules.items c.as_slice.result.now
    c.in_err-walk_rules-in-None.field-0.0
    (unread-rules _ _ c.args.self.now.kind c.args.file _ c.in-None.is c.in_ok-rules-in-None.ensures.rules) c.as_slice.ensures.value
    c.in_err-walk_rules-in-None.ensures.walked)

pub walk_file-returns-in_ok-walk_rules-in-None-clause-table : goal.walk_file-returns-in_ok-walk_rules-in-None-clause-table
walk_file-returns-in_ok-walk_rules-in-None-clause-table t c =
    let table = taken _ _ _ _ c.in-None.is c.in_ok-walk_rules-in-None.ensures.table in
    stored _ _ _ _ c.in-None.is
    (table-set c.args.self.now.files.now c.args.self.now.kind c.walk_rules.new.progress.table.items c.args.file (Some c.in_ok-rules-in-None.rules)
    (omega (arith, c.requires.within, table.full)) table
    (lemmas.kept-read c.args.self.now.kind c.args.file (rules_at c.args.self.now.files.now c.args.file) _ c.in_ok-rules-in-None.ensures.rules))

pub walk_file-returns-in_ok-walk_rules-in-None-clause-walked : goal.walk_file-returns-in_ok-walk_rules-in-None-clause-walked
walk_file-returns-in_ok-walk_rules-in-None-clause-walked t c =
    lemmas.file-walked c.args.self.now.files.now (reads_by c.args.self.now.files.now c.args.self.now.read) c.args.self.now.kind
    (service_of c.args.self.now.service) (is_some c.args.self.now.read)
    (count_of c.args.progress.now) (count_of c.walk_rules.new.progress) (items_of c.args.items.now.items)
    (items_of c.walk_rules.new.items.items) c.args.trail.now c.args.file c.in_ok-rules-in-None.rules.items c.as_slice.result.now
    (unread-rules _ _ c.args.self.now.kind c.args.file _ c.in-None.is c.in_ok-rules-in-None.ensures.rules) c.as_slice.ensures.value
    c.in_ok-walk_rules-in-None.ensures.walked

-- A RULE

pub walk_rule-returns-then-not-counts-clause-walked : goal.walk_rule-returns-then-not-counts-clause-walked
walk_rule-returns-then-not-counts-clause-walked t c =
    rules.rule-passed c.args.self.now.files.now (reads_by c.args.self.now.files.now c.args.self.now.read) c.args.self.now.kind
    (service_of c.args.self.now.service) _ c.args.trail.now c.args.file
    (kept_view c.args.rule.now) (is_some c.args.self.now.read) (count_of c.args.progress.now) (items_of c.args.items.now.items)
    (sym c.counts.ensures ∙ c.if-not-counts.true)

pub walk_rule-returns-then-progress-eq-MAX_MODULES-clause-walked : goal.walk_rule-returns-then-progress-eq-MAX_MODULES-clause-walked
walk_rule-returns-then-progress-eq-MAX_MODULES-clause-walked t c =
    rules.rule-full c.args.self.now.files.now (reads_by c.args.self.now.files.now c.args.self.now.read) c.args.self.now.kind
    (service_of c.args.self.now.service) _ c.args.trail.now c.args.file
    (kept_view c.args.rule.now) (sym c.counts.ensures ∙ c.if-not-counts.false) (is_some c.args.self.now.read)
    (count_of c.args.progress.now) _ _ _ c.fault.result
    (ap kept_body c.in-Module.is) c.if-progress-eq-MAX_MODULES.true c.fault.ensures

pub walk_rule-follow-requires : goal.walk_rule-follow-requires
walk_rule-follow-requires t c = (omega arith, c.requires.table)

pub walk_rule-returns-in_err-follow-in-Include-clause-walked : goal.walk_rule-returns-in_err-follow-in-Include-clause-walked
walk_rule-returns-in_err-follow-in-Include-clause-walked t c =
    let p = err_from_is_err_and c.from_residual-in_err-follow-in-Include.result c.from_residual-in_err-follow-in-Include.ensures.1 in
    rw (p.1, p.2) (rules.rule-include_refused c.args.self.now.files.now (reads_by c.args.self.now.files.now c.args.self.now.read) c.args.self.now.kind
    (service_of c.args.self.now.service) _ c.args.trail.now
    c.args.file (kept_view c.args.rule.now) (sym c.counts.ensures ∙ c.if-not-counts.false) (is_some c.args.self.now.read) (count_of c.args.progress.now)
    (count_of c.follow.new.progress) c.as_slice.result.now c.in_err-follow-in-Include.field-0.0 (ap kept_body c.in-Include.is ∙ ap Include
    (sym c.as_slice.ensures.value))
    c.in_err-follow-in-Include.ensures.walked)

pub walk_rule-follow-requires-in-Sub : goal.walk_rule-follow-requires-in-Sub
walk_rule-follow-requires-in-Sub t c = (omega arith, c.requires.table)

pub walk_rule-returns-in_err-found-in-Sub-clause-walked : goal.walk_rule-returns-in_err-found-in-Sub-clause-walked
walk_rule-returns-in_err-found-in-Sub-clause-walked t c =
    let p = err_from_is_err_and c.from_residual-in_err-found-in-Sub.result c.from_residual-in_err-found-in-Sub.ensures.1 in
    rw (p.1, p.2) (rules.rule-sub_refused c.args.self.now.files.now (reads_by c.args.self.now.files.now c.args.self.now.read) c.args.self.now.kind
    (service_of c.args.self.now.service) _ c.args.trail.now c.args.file
    (kept_view c.args.rule.now) (sym c.counts.ensures ∙ c.if-not-counts.false) (is_some c.args.self.now.read) (count_of c.args.progress.now)
    (count_of c.follow-in-Sub.new.progress) c.as_slice-in-Sub.result.now c.in_err-found-in-Sub.field-0.0 (ap kept_body c.in-Sub.is ∙ ap Sub
    (sym c.as_slice-in-Sub.ensures.value))
    c.in_err-found-in-Sub.ensures.walked)

pub walk_rule-returns-in_ok-push-in-Module-clause-walked : goal.walk_rule-returns-in_ok-push-in-Module-clause-walked
walk_rule-returns-in_ok-push-in-Module-clause-walked t c =
    rules.rule-module c.args.self.now.files.now (reads_by c.args.self.now.files.now c.args.self.now.read) c.args.self.now.kind
    (service_of c.args.self.now.service) _ c.args.trail.now c.args.file
    (kept_view c.args.rule.now) (sym c.counts.ensures ∙ c.if-not-counts.false) (is_some c.args.self.now.read) (count_of c.args.progress.now)
    (items_of c.args.items.now.items) (items_of c.push.new.self.items) _ _ _ (ap kept_body c.in-Module.is) c.if-progress-eq-MAX_MODULES.false
    (ap items_of c.in_ok-push-in-Module.ensures.items ∙ items_of-push_module c.args.items.now.items _
    ∙ ap (λ (m : ModuleText). joined (items_of c.args.items.now.items) (ThenModule m End))
    c.in_ok-module-in-Module.ensures)

pub walk_rule-returns-in_default-clause-walked : goal.walk_rule-returns-in_default-clause-walked
walk_rule-returns-in_default-clause-walked t c =
    rules.rule-sub_fails c.args.self.now.files.now (reads_by c.args.self.now.files.now c.args.self.now.read) c.args.self.now.kind
    (service_of c.args.self.now.service) _ c.args.trail.now c.args.file
    (kept_view c.args.rule.now) (sym c.counts.ensures ∙ c.if-not-counts.false) (is_some c.args.self.now.read) (count_of c.args.progress.now)
    (count_of c.follow-in-Sub.new.progress) c.as_slice-in-Sub.result.now (items_of c.args.items.now.items) (items_of c.args.items.now.items)
    (items_of c.new-inner.result.items) (items_of c.follow-in-Sub.new.items.items)
    (ap kept_body c.in-Sub.is ∙ ap Sub (sym c.as_slice-in-Sub.ensures.value))
    (rw c.in_default.is at c.in_ok-found-in-Sub.ensures.walked) refl

pub walk_rule-returns-in_ok-push-in-Sub-clause-walked : goal.walk_rule-returns-in_ok-push-in-Sub-clause-walked
walk_rule-returns-in_ok-push-in-Sub-clause-walked t c =
    rules.rule-sub c.args.self.now.files.now (reads_by c.args.self.now.files.now c.args.self.now.read) c.args.self.now.kind
    (service_of c.args.self.now.service) _ c.args.trail.now c.args.file
    (kept_view c.args.rule.now) (sym c.counts.ensures ∙ c.if-not-counts.false) (is_some c.args.self.now.read) (count_of c.args.progress.now)
    (count_of c.follow-in-Sub.new.progress) c.as_slice-in-Sub.result.now (items_of c.args.items.now.items) (items_of c.push-in-Sub.new.self.items)
    (items_of c.new-inner.result.items) (items_of c.follow-in-Sub.new.items.items) c.in-Some.target
    (ap kept_body c.in-Sub.is ∙ ap Sub (sym c.as_slice-in-Sub.ensures.value)) (ap items_of c.new-inner.ensures.items)
    (rw c.in-Some.is at c.in_ok-found-in-Sub.ensures.walked)
    (ap items_of c.in_ok-push-in-Sub.ensures.items ∙ items_of-push_sub c.args.items.now.items _)

-- THE RULES OF A FILE

pub walk_rules-loop-rule-init : goal.walk_rules-loop-rule-init
walk_rules-loop-rule-init t c = record {
  table = c.requires.table;
  leads = lemmas.leads-start (is_some c.args.self.now.read) (count_of c.args.progress.now) (items_of c.args.items.now.items) _ _ refl;
}

pub walk_rules-walk_rule-requires : goal.walk_rules-walk_rule-requires
walk_rules-walk_rule-requires t c = (omega arith, c.loop-rule.invariant.table)

pub walk_rules-returns-in_err-walk_rule-clause-walked : goal.walk_rules-returns-in_err-walk_rule-clause-walked
walk_rules-returns-in_err-walk_rule-clause-walked t c =
    let p = err_from_is_err_and c.from_residual.result c.from_residual.ensures.1 in
    rw (p.1, p.2) (lemmas.leads-refused (is_some c.args.self.now.read) (count_of c.args.progress.now) (count_of c.loop-rule.progress)
    (count_of c.walk_rule.new.progress)
    (items_of c.args.items.now.items) (items_of c.loop-rule.items.items)
    (lemmas.walk_of c.args.self.now.files.now (reads_by c.args.self.now.files.now c.args.self.now.read) c.args.self.now.kind
    (service_of c.args.self.now.service) c.args.trail.now c.args.file c.args.rules.now)
    (lemmas.walk_of c.args.self.now.files.now (reads_by c.args.self.now.files.now c.args.self.now.read) c.args.self.now.kind
    (service_of c.args.self.now.service) c.args.trail.now c.args.file
    (drop c.loop-rule.rule-index c.args.rules.now)) (rule_walk c.args.self.now.files.now
    (reads_by c.args.self.now.files.now c.args.self.now.read) c.args.self.now.kind
    (service_of c.args.self.now.service)
    (deeper c.args.self.now.files.now (reads_by c.args.self.now.files.now c.args.self.now.read) c.args.self.now.kind
    (service_of c.args.self.now.service) (MAX_OPEN_FILES - length c.args.trail.now)) c.args.trail.now
    c.args.file (kept_view c.rule-item.result)) (lemmas.walk_of c.args.self.now.files.now
    (reads_by c.args.self.now.files.now c.args.self.now.read) c.args.self.now.kind
    (service_of c.args.self.now.service)
    c.args.trail.now c.args.file (drop (c.loop-rule.rule-index + 1) c.args.rules.now)) c.in_err-walk_rule.field-0.0 c.loop-rule.invariant.leads
    (lemmas.walk-more c.args.self.now.files.now (reads_by c.args.self.now.files.now c.args.self.now.read) c.args.self.now.kind
    (service_of c.args.self.now.service) c.args.trail.now c.args.file c.args.rules.now
    c.loop-rule.rule-index c.rule-item.result (omega arith) c.rule-item.is) c.in_err-walk_rule.ensures.walked)

pub walk_rules-loop-rule-preserved : goal.walk_rules-loop-rule-preserved
walk_rules-loop-rule-preserved t c = record {
  table = c.in_ok-walk_rule.ensures.table;
  leads =
      lemmas.leads-step (is_some c.args.self.now.read) (count_of c.args.progress.now) (count_of c.loop-rule.progress)
      (count_of c.walk_rule.new.progress) (items_of c.args.items.now.items) (items_of c.loop-rule.items.items)
      (items_of c.walk_rule.new.items.items) _ _ _ _ c.loop-rule.invariant.leads
      (lemmas.walk-more c.args.self.now.files.now (reads_by c.args.self.now.files.now c.args.self.now.read) c.args.self.now.kind
      (service_of c.args.self.now.service) c.args.trail.now c.args.file c.args.rules.now
      c.loop-rule.rule-index c.rule-item.result (omega arith) c.rule-item.is) c.in_ok-walk_rule.ensures.walked;
}

pub walk_rules-returns-clause-walked : goal.walk_rules-returns-clause-walked
walk_rules-returns-clause-walked t c =
    lemmas.leads-end (is_some c.args.self.now.read) (count_of c.args.progress.now) (count_of c.loop-rule.progress)
    (items_of c.args.items.now.items) (items_of c.loop-rule.items.items) _ _ c.loop-rule.invariant.leads
    (ap (lemmas.walk_of c.args.self.now.files.now (reads_by c.args.self.now.files.now c.args.self.now.read) c.args.self.now.kind
    (service_of c.args.self.now.service) c.args.trail.now c.args.file)
    (drop_all c.loop-rule.rule-index c.args.rules.now (omega arith)))

-- THE RULES OF A FILE THAT WAS READ BEFORE

-- the walk of the rules at indices
abbrev left : Walker → List ℕ → ℕ → FileRules → List ℕ → Walk
left walker trail file found indices =
    kinds.walk_at walker.files.now (reads_by walker.files.now walker.read) walker.kind (service_of walker.service) trail file
    (picked (map kept_view found.rules.items) indices)

pub walk_found-loop-index-init : goal.walk_found-loop-index-init
walk_found-loop-index-init t c = record {
  table = c.requires.table;
  leads =
      lemmas.leads-start (is_some c.args.self.now.read) (count_of c.args.progress.now) (items_of c.args.items.now.items) _ _
      (ap (left c.args.self.now c.args.trail.now c.args.file c.args.found.now) (sym c.indices-index-items.ensures));
}

pub walk_found-walk_rule-requires : goal.walk_found-walk_rule-requires
walk_found-walk_rule-requires t c = (omega arith, c.loop-index.invariant.table)

pub walk_found-returns-in_err-walk_rule-clause-walked : goal.walk_found-returns-in_err-walk_rule-clause-walked
walk_found-returns-in_err-walk_rule-clause-walked t c =
    let w = c.args.self.now in
    let indices = c.indices-index-items.result.now in
    let n = c.loop-index.index-index in
    let within : n < length indices = omega arith in
    let p = err_from_is_err_and c.from_residual.result c.from_residual.ensures.1 in
    rw (p.1, p.2) (lemmas.leads-refused (is_some w.read) (count_of c.args.progress.now) (count_of c.loop-index.progress)
    (count_of c.walk_rule.new.progress) (items_of c.args.items.now.items) (items_of c.loop-index.items.items) _ _ _
    (left w c.args.trail.now c.args.file c.args.found.now (drop (n + 1) indices)) c.in_err-walk_rule.field-0.0 c.loop-index.invariant.leads
    (kinds.walk-picked w.files.now (reads_by w.files.now w.read) w.kind (service_of w.service) c.args.trail.now c.args.file
    (map kept_view c.args.found.now.rules.items) indices n within (kept_view c.in-Some.rule.now)
    (rule-lent c.args.found.now.rules.items c.deref.result.now _ (Some c.in-Some.rule) c.deref.ensures.value c.in-Some.ensures.lookup))
    c.in_err-walk_rule.ensures.walked)

pub walk_found-loop-index-preserved : goal.walk_found-loop-index-preserved
walk_found-loop-index-preserved t c =
    let s = c.args.self.now in
    let reads = reads_by s.files.now s.read in
    let indices = c.indices-index-items.result.now in
    let n = c.loop-index.index-index in
    let within : n < length indices = omega arith in
    elim c.match-get.branch [
      | walk_found-in-Some+in_ok-walk_rule w ↦ rw (w.progress-is, w.items-is) record {
        table = w.in_ok-walk_rule.ensures.table;
        leads =
            lemmas.leads-step (is_some s.read) (count_of c.args.progress.now) (count_of c.loop-index.progress) (count_of w.walk_rule.new.progress)
            (items_of c.args.items.now.items) (items_of c.loop-index.items.items) (items_of w.walk_rule.new.items.items) _ _ _ _
            c.loop-index.invariant.leads
            (kinds.walk-picked s.files.now reads s.kind (service_of s.service) c.args.trail.now c.args.file
            (map kept_view c.args.found.now.rules.items) indices n within (kept_view w.in-Some.rule.now)
            (rule-lent c.args.found.now.rules.items c.deref.result.now _ (Some w.in-Some.rule) c.deref.ensures.value w.in-Some.ensures.lookup))
            w.in_ok-walk_rule.ensures.walked;
      }
      | walk_found-in_default w ↦ rw (w.progress-is, w.items-is) record {
        table = c.loop-index.invariant.table;
        leads =
            kinds.walk-passed s.files.now reads s.kind (service_of s.service) c.args.trail.now c.args.file
            (map kept_view c.args.found.now.rules.items) indices n within (is_some s.read) (count_of c.args.progress.now)
            (count_of c.loop-index.progress) (items_of c.args.items.now.items) (items_of c.loop-index.items.items) _
            (rule-lent c.args.found.now.rules.items c.deref.result.now _ None c.deref.ensures.value w.in_default.ensures.lookup)
            c.loop-index.invariant.leads;
      }
    ]

pub walk_found-returns-clause-walked : goal.walk_found-returns-clause-walked
walk_found-returns-clause-walked t c =
    lemmas.leads-end (is_some c.args.self.now.read) (count_of c.args.progress.now) (count_of c.loop-index.progress)
    (items_of c.args.items.now.items) (items_of c.loop-index.items.items) _ _ c.loop-index.invariant.leads
    (ap (left c.args.self.now c.args.trail.now c.args.file c.args.found.now)
    (drop_all c.loop-index.index-index c.indices-index-items.result.now (omega arith)))
