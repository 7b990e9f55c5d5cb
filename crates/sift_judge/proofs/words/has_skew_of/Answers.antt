use Rattle.std.proofs.lemmas.Int.{to_z-of_z}
use mir.Val.{SFits}
use mir.Syntax.{w32}
use Rattle.sift_judge.proofs.Skews.{skew_decides}
use Rattle.sift_judge.proofs.Deciding.{no_since, no_value, of_value}
use Rattle.sift_judge.specs.Clocks.{IsTrueSkew, clock_told, working_clocks}
use Rattle.sift_skew.specs.Figures.{IsSkew}
use Rattle.std.specs.Prelude.{◌↔◌}
use Rattle.sift_mission.specs.Parts.{data_of}
use Rattle.std.proofs.Common.{◌≡◌, ◌∙◌, ℤ, List, rules, ap, map, subst, to_z, of_z, true, w64}
use Rattle.sift_judge.proofs.words.has_skew_of.Goals as goal

pub returns-in-None : goal.returns-in-None
returns-in-None c =
    let d = data_of c.args.mission.now in
    no_value _ (IsTrueSkew d (working_clocks d c.args.lines.now c.args.f c.args.config.now)) c.in-None.is

pub returns-then-is_skew : goal.returns-then-is_skew
returns-then-is_skew c =
    let d = data_of c.args.mission.now in
    let lines = c.args.lines.now in
    let f = c.args.f in
    let s = c.in-Some.skew in
    let clocks : c.deref-in-Some.result.now ≡ working_clocks d lines f c.args.config.now =
    c.deref-in-Some.ensures.0 ∙ c.clocks_of.ensures ∙ ap (map (clock_told d lines f)) (c.deref.ensures.0 ∙ c.working_in-working.ensures) in
    let fits : SFits w64 s = search rules in
    let fits_limit : SFits w32 c.parts.result.now.clock.skew = search rules in
    let skew = subst (λ (cs : List ℤ). IsSkew cs (to_z w64 (of_z w64 s))) clocks (c.is_skew.ensures.0 c.if-is_skew.true) in
    of_value _ s (IsTrueSkew d (working_clocks d lines f c.args.config.now)) _ c.in-Some.is
    (rw c.parts.ensures.same at (skew_decides (working_clocks d lines f c.args.config.now) s c.parts.result.now.clock.skew c.from.result fits fits_limit c.from.ensures skew))

pub returns-else-is_skew : goal.returns-else-is_skew
returns-else-is_skew c =
    let d = data_of c.args.mission.now in
    let lines = c.args.lines.now in
    let f = c.args.f in
    let s = c.in-Some.skew in
    let clocks : c.deref-in-Some.result.now ≡ working_clocks d lines f c.args.config.now =
    c.deref-in-Some.ensures.0 ∙ c.clocks_of.ensures ∙ ap (map (clock_told d lines f)) (c.deref.ensures.0 ∙ c.working_in-working.ensures) in
    let fits : SFits w64 s = search rules in
    let decides = rw (to_z-of_z w64 s fits) at (subst (λ (cs : List ℤ). (c.is_skew.result ≡ true) ↔ IsSkew cs (to_z w64 (of_z w64 s))) clocks c.is_skew.ensures) in
    of_value _ s (IsTrueSkew d (working_clocks d lines f c.args.config.now)) _ c.in-Some.is
    (no_since c.is_skew.result _ _ c.if-is_skew.false decides (λ both. both.0))
