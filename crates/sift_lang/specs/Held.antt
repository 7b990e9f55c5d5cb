-- What the evaluator holds, in the words of the meaning. No public clause cites this module.
use Rattle.std.specs.Prelude.{length}
use Rattle.arrayvec.specs.ArrayVec.{array_vec_len}
use Rattle.sift_lang.specs.declared.evaluator.Readings.{Readings}
use Rattle.sift_lang.specs.declared.evaluator.State.{State}
use Rattle.sift_lang.specs.Meaning as Meaning
use Rattle.sift_lang.specs.Sound.{Bounds}

-- the three lists
abbrev pub readings_of : Readings → Meaning.Readings
readings_of r = record { ins = r.ins.now; made = r.made.now; last = r.last.now }

-- the locals that live, and the output words
abbrev pub state_of : State → Meaning.State
state_of f = record { locals = f.locals.items; outs = f.outs.items }

-- how many sensors, voted words and output words there are
abbrev pub bounds_of : Readings → State → Bounds
bounds_of r f = record { sensors = length r.ins.now; words = length r.last.now; outputs = array_vec_len f.outs }
