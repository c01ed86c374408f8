use Rattle.std.proofs.Common.{◌-◌, Some, ap, slice_index_or, subst, sym, true, ◌∙◌, arith}
use Rattle.std.specs.List.{list_any}
use Rattle.pam_codes.specs.Set.{IsCodeSet}
use Rattle.pam_dispatch.specs.declared.asked.Situation.{Situation}
use Rattle.pam_dispatch.specs.Flat.{rest_of}
use Rattle.pam_dispatch.specs.Representatives.{is_reset}
use Rattle.pam_dispatch.specs.Runs.{Ask, next_ask, situation_of}
use Rattle.pam_dispatch.specs.Situations.{representative}
use Rattle.pam_paths.specs.declared.classes.Classes.{Classes}
use Rattle.pam_paths.specs.Frames.{AreClasses}
use Rattle.pam_paths.specs.Cached.{AreCached, IsCachedFor}
use Rattle.pam_paths.proofs.CachedOnes.{cached-of, cached-set, like-stands, own-stands}
use Rattle.pam_paths.proofs.Sets.{where-is_set}
use Rattle.pam_paths.proofs.class_cache.ClassCache.at.Goals as goal

pub returns-then-is_of : goal.returns-then-is_of
unfolding AreCached IsCachedFor
returns-then-is_of g c =
    let ask = next_ask (rest_of c.args.scope.now.program.now c.args.place.now) in
    let own = c.representative-situation.ensures ∙ ap (representative true) (c.situation.ensures ∙ ap (λ (a : Ask). situation_of a) c.asked.ensures) in
    let past = c.index-self-module_number.result in
    let kept = slice_index_or c.args.self.now.modules (c.args.module_number - 1) past in
    let known = c.requires.cache c.args.module_number c.requires.first (omega (arith, c.requires.last, c.requires.few))
    past c.args.place.now c.requires.place c.requires.asking
    (own-stands kept.situation c.representative-situation.result ask (c.is_of.ensures c.if-is_of.true) own) in
    record { cache = c.requires.cache; offered = known.0; classes = known.1 }

pub returns-then-not-resets : goal.returns-then-not-resets
unfolding AreCached IsCachedFor
returns-then-not-resets g c =
    let ask = next_ask (rest_of c.args.scope.now.program.now c.args.place.now) in
    let own = c.representative-situation.ensures ∙ ap (representative true) (c.situation.ensures ∙ ap (λ (a : Ask). situation_of a) c.asked.ensures) in
    let past = c.index-self-module_number.result in
    let kept = slice_index_or c.args.self.now.modules (c.args.module_number - 1) past in
    let none = ap (list_any is_reset) (c.control.ensures.asked c.args.place.now c.requires.place c.requires.asking)
    ∙ sym c.has_reset-resets.ensures ∙ c.if-not-resets.true in
    let known = c.requires.cache c.args.module_number c.requires.first (omega (arith, c.requires.last, c.requires.few))
    past c.args.place.now c.requires.place c.requires.asking
    (like-stands kept.situation c.representative-situation.result ask (c.is_like.ensures c.if-is_like.true) own none) in
    record { cache = c.requires.cache; offered = known.0; classes = known.1 }

pub at-classes-requires-clause-allowed : goal.at-classes-requires-clause-allowed
at-classes-requires-clause-allowed g c =
    subst IsCodeSet (sym c.allowed-allowed.ensures) (where-is_set (g.K.Knowledge.allows c.args.scope.now.knowledge.now c.args.module_number))

pub returns-clause-cache : goal.returns-clause-cache
returns-clause-cache g c =
    let allows = g.K.Knowledge.allows c.args.scope.now.knowledge.now in
    let program = c.args.scope.now.program.now in
    let e = c.at-classes.ensures in
    let own = c.representative-situation.ensures ∙ ap (representative true) (c.situation.ensures ∙ ap (λ (a : Ask). situation_of a) c.asked.ensures) in
    cached-set allows program c.args.module_number c.args.self.now.modules c.of.result c.requires.cache (search) c.requires.first
    (omega (arith, c.requires.last, c.requires.few))
    (cached-of allows program c.args.module_number c.args.place.now c.of.result c.requires.place c.requires.asking e.control
    (c.of.ensures.situation ∙ ap (λ (s : Situation). Some s) own)
    (ap (λ (k : Classes). k.offered) c.of.ensures.classes ∙ e.offered allows c.allowed-allowed.ensures)
    (subst (λ (k : Classes). AreClasses (next_ask (rest_of program c.args.place.now)) k) (sym c.of.ensures.classes) e.classes))
