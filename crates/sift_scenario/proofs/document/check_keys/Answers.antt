use Rattle.sift_scenario.proofs.document.check_keys.Goals as goal

-- the keys are known
pub returns-then-has_only_keys : goal.returns-then-has_only_keys
returns-then-has_only_keys c place broken = broken.1 (c.has_only_keys.ensures.0 c.if-has_only_keys.true)
