use Rattle.std.proofs.Common.{[], ◌∷◌, Some, codes}
use Rattle.sift_line.proofs.LineForms.{field_at}
use Rattle.sift_line.proofs.Results.{held, none_given}
use Rattle.sift_line.specs.declared.line.ReportLine.TheVariants.{Last}
use Rattle.sift_line.proofs.read.read_last_line.Goals as goal

pub returns-in_err-frames-clause-exact : goal.returns-in_err-frames-clause-exact
returns-in_err-frames-clause-exact c = λ n us has holds e.
    absurd (none_given n (c.in_err-frames.ensures.exact n holds.0 (field_at 1 _ _ e)))

pub returns-in_err-cfg-clause-exact : goal.returns-in_err-cfg-clause-exact
returns-in_err-cfg-clause-exact c = λ n us has holds e.
    absurd (none_given us (c.in_err-cfg.ensures.exact us holds.1 (field_at 2 _ _ e)))

pub returns-in_err-margin-clause-exact : goal.returns-in_err-margin-clause-exact
returns-in_err-margin-clause-exact c = λ n us has holds e.
    absurd (none_given has (c.in_err-margin.ensures.exact has tt (field_at 3 _ _ e)))

pub returns-clause-printed : goal.returns-clause-printed
returns-clause-printed c =
    λ i. codes "end" ∷ c.in_ok-frames.ensures.printed i ∷ c.in_ok-cfg.ensures.printed i ∷ c.in_ok-margin.ensures.printed i ∷ []

pub returns-clause-exact : goal.returns-clause-exact
returns-clause-exact c = λ n us has holds e.
    let frames = held c.in_ok-frames.frames n (c.in_ok-frames.ensures.exact n holds.0 (field_at 1 _ _ e)) in
    let cfg = held c.in_ok-cfg.cfg us (c.in_ok-cfg.ensures.exact us holds.1 (field_at 2 _ _ e)) in
    let margin = held c.in_ok-margin.margin has (c.in_ok-margin.ensures.exact has tt (field_at 3 _ _ e)) in
    λ i. Some (Last (frames i) (cfg i) (margin i))
