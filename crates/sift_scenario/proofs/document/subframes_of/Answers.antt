use Rattle.std.proofs.Common.{◌≡◌, Some, None, sym, ◌∙◌}
use Rattle.sift_document.specs.laws.Testing.{kept_of_none, refused_of_none}
use Rattle.sift_scenario.proofs.document.subframes_of.Goals as goal

pub returns-in-Some-clause-subframes : goal.returns-in-Some-clause-subframes
returns-in-Some-clause-subframes c = λ unstated. sym (c.in-Some.ensures unstated)

pub returns-in-Some-clause-tests : goal.returns-in-Some-clause-tests
returns-in-Some-clause-tests c = kept_of_none _ (λ none. let wrong : Some _ ≡ None = c.in-Some.ensures _ ∙ none in cc wrong)

pub returns-in-None-clause-tests : goal.returns-in-None-clause-tests
returns-in-None-clause-tests c = rw c.at.ensures (refused_of_none 5 _ (sym (c.in-None.ensures _)))
