use Rattle.std.proofs.Common.{◌≡◌, sym, subst, ◌∙◌, w32, arith}
use Rattle.std.proofs.lemmas.Int.{to_z-of_z}
use Rattle.std.proofs.lemmas.Grind.{common_steps}
use Rattle.sift_clocklab.specs.Conditions.{IsReady}
use Rattle.sift_clocklab.specs.Draws.{drawn_face, drawn_lab}
use Rattle.sift_clocklab.proofs.DrawnLabs.{admitted_as_given, drawn_ready, not_both}
use Rattle.sift_clocklab.proofs.Products.{held}
use Rattle.sift_clocklab.proofs.drawn_lab.drawn.Goals as goal

-- what was drawn was drawn for the numbers as they are given
pub returns-clause-lab : goal.returns-clause-lab
returns-clause-lab c =
    let a = c.args in
    let skew : held a.skew ≡ a.skew = to_z-of_z w32 a.skew c.ranges.skew in
    let error : held a.error ≡ a.error = to_z-of_z w32 a.error c.ranges.error in
    let rate : held a.rate ≡ a.rate = to_z-of_z w32 a.rate c.ranges.rate in
    c.in_ok-make_drawn.ensures.lab ∙ (λ i. drawn_lab a.n a.m (skew i) (error i) (rate i) a.rounds a.number)

pub returns-clause-face : goal.returns-clause-face
returns-clause-face c =
    let a = c.args in
    let skew : held a.skew ≡ a.skew = to_z-of_z w32 a.skew c.ranges.skew in
    let error : held a.error ≡ a.error = to_z-of_z w32 a.error c.ranges.error in
    c.in_ok-make_drawn.ensures.face ∙ (λ i. drawn_face a.n a.m (skew i) (error i) a.number)

-- a drawn laboratory can be run
pub returns-clause-ready : goal.returns-clause-ready
returns-clause-ready c =
    let a = c.args in
    let skew : held a.skew ≡ a.skew = to_z-of_z w32 a.skew c.ranges.skew in
    let error : held a.error ≡ a.error = to_z-of_z w32 a.error c.ranges.error in
    let rate : held a.rate ≡ a.rate = to_z-of_z w32 a.rate c.ranges.rate in
    let admitted = admitted_as_given a.n a.m (held a.skew) (held a.error) (held a.rate) a.skew a.error a.rate skew error rate
    c.if-not-admits.ensures in
    let lab = c.in_ok-make_drawn.ensures.lab ∙ (λ i. drawn_lab a.n a.m (skew i) (error i) (rate i) a.rounds a.number) in
    subst IsReady (sym lab) (drawn_ready a.n a.m a.skew a.error a.rate a.rounds a.number c.requires admitted)

-- it was admitted
pub returns-clause-not_admitted : goal.returns-clause-not_admitted
returns-clause-not_admitted c =
    let a = c.args in
    let skew : held a.skew ≡ a.skew = to_z-of_z w32 a.skew c.ranges.skew in
    let error : held a.error ≡ a.error = to_z-of_z w32 a.error c.ranges.error in
    let rate : held a.rate ≡ a.rate = to_z-of_z w32 a.rate c.ranges.rate in
    let admitted = admitted_as_given a.n a.m (held a.skew) (held a.error) (held a.rate) a.skew a.error a.rate skew error rate
    c.if-not-admits.ensures in
    (λ ends. cc, λ refused. absurd (not_both a.n a.m a.skew a.error a.rate admitted refused))

pub returns-in_err-make_drawn-clause-not_admitted : goal.returns-in_err-make_drawn-clause-not_admitted
returns-in_err-make_drawn-clause-not_admitted c = grind (arith, common_steps)
