use Rattle.std.proofs.Common.{◌≡◌, [], map, ◌∙◌, subst, ap, ℕ, ℤ}
use Rattle.std.specs.Prelude.{MatchOption}
use Rattle.sift_skew.specs.Figures.{IsSkew}
use Rattle.sift_mission.specs.Parts.{flown_of}
use Rattle.sift_flight.specs.Figures.{offsets_at, working_at}
use Rattle.sift_flight.specs.Told.{told}
use Rattle.sift_flight.proofs.Telling.{skew_found, skew_of_units}
use Rattle.sift_flight.proofs.figures.skew_at.Goals as goal

-- the skew that is found is that of the offsets
found : (c : goal.After-skew) → let m = flown_of c.args.mission.now in
    let os = offsets_at m (told m c.args.flight.now) c.args.f in MatchOption c.skew.result (os ≡ []) (IsSkew os)
found c =
    let m = flown_of c.args.mission.now in
    let clk : ℕ → ℤ = λ u. ((told m c.args.flight.now).account u c.args.f).clk in
    subst (λ os. MatchOption c.skew.result (os ≡ []) (IsSkew os))
    (c.deref-2.ensures.0 ∙ c.offsets_of.ensures.offsets ∙ ap (map clk) (c.deref.ensures.0 ∙ c.working_at-working.ensures.working)) c.skew.ensures

pub returns-clause-told : goal.returns-clause-told
returns-clause-told c =
    let m = flown_of c.args.mission.now in
    skew_found (λ u. ((told m c.args.flight.now).account u c.args.f).clk) (working_at m (told m c.args.flight.now) c.args.f) c.skew.result (found c)

pub returns-clause-skew : goal.returns-clause-skew
returns-clause-skew c =
    let m = flown_of c.args.mission.now in
    skew_of_units (λ u. ((told m c.args.flight.now).account u c.args.f).clk) (working_at m (told m c.args.flight.now) c.args.f) c.skew.result (found c)
