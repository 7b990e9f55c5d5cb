use Rattle.std.proofs.Common.{◌≡◌, Some, None, sym, ◌∙◌}
use Rattle.sift_document.specs.laws.Testing.{kept_of_none, refused_of_none}
use Rattle.sift_scenario.proofs.document.version_of.Goals as goal

pub returns-in-Some-clause-version : goal.returns-in-Some-clause-version
returns-in-Some-clause-version c = rw c.unwrap_or.ensures (sym (c.in-Some.ensures 1))

pub returns-in-Some-clause-tests : goal.returns-in-Some-clause-tests
returns-in-Some-clause-tests c = kept_of_none _ (λ none. let wrong : Some _ ≡ None = c.in-Some.ensures 1 ∙ none in cc wrong)

pub returns-in-None-clause-tests : goal.returns-in-None-clause-tests
returns-in-None-clause-tests c = rw c.at.ensures (refused_of_none 4 _ (sym (c.in-None.ensures 1)))
