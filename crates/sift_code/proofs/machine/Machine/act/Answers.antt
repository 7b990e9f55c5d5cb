use Rattle.std.proofs.Common.{◌∙◌, arith, ap, length, refl, sym}
use Rattle.std.proofs.lemmas.Grind.{common_steps}
use Rattle.sift_code.specs.declared.instr.Instr.TheVariants.{Add, Sub, Mul, Div, Rem, And, Or, Xor, Shl, Shr, Lt, Eq}
use Rattle.sift_code.proofs.Sound.{braced, uncrowded}
use Rattle.sift_code.proofs.Places.{locals_of-get, refill-set}
use Rattle.sift_code.proofs.Standing.{fetched, heights, inside, operand}
use Rattle.sift_code.proofs.Operators.{combining}
use Rattle.sift_code.proofs.Steps.{pushes_word, combines, middles, stores, puts_out}
use Rattle.sift_code.proofs.Turns.{enclosing_few, jumps, jumps_at_zero, begins, started, ends}
use Rattle.sift_code.proofs.machine.Machine.act.Goals as goal

-- a place fits
pub overflow_add-self : goal.overflow_add-self
overflow_add-self c = omega (arith, c.requires.short)

pub load-requires-clause-inside : goal.load-requires-clause-inside
load-requires-clause-inside c =
    let f = fetched c.requires.room c.requires.stands c.nest-nest.ensures.sound c.requires.instr c.in-Load.is in
    let h = heights f in omega (arith, h.1)

-- there is enough on the stack
pub store-requires-clause-filled : goal.store-requires-clause-filled
store-requires-clause-filled c =
    (heights (fetched c.requires.room c.requires.stands c.nest-nest.ensures.sound c.requires.instr c.in-Store.is)).0

pub store-requires-clause-inside : goal.store-requires-clause-inside
store-requires-clause-inside c =
    inside (fetched c.requires.room c.requires.stands c.nest-nest.ensures.sound c.requires.instr c.in-Store.is)

pub pop-word-requires-clause-filled : goal.pop-word-requires-clause-filled
pop-word-requires-clause-filled c =
    (heights (fetched c.requires.room c.requires.stands c.nest-nest.ensures.sound c.requires.instr c.in-Out.is)).0

pub pop-word-requires-clause-inside : goal.pop-word-requires-clause-inside
pop-word-requires-clause-inside c =
    inside (fetched c.requires.room c.requires.stands c.nest-nest.ensures.sound c.requires.instr c.in-Out.is)

pub middle-requires-clause-filled : goal.middle-requires-clause-filled
middle-requires-clause-filled c =
    (heights (fetched c.requires.room c.requires.stands c.nest-nest.ensures.sound c.requires.instr c.in-Mid.is)).0

pub middle-requires-clause-inside : goal.middle-requires-clause-inside
middle-requires-clause-inside c =
    inside (fetched c.requires.room c.requires.stands c.nest-nest.ensures.sound c.requires.instr c.in-Mid.is)

pub pop-word-requires-in-JumpZ-clause-filled : goal.pop-word-requires-in-JumpZ-clause-filled
pop-word-requires-in-JumpZ-clause-filled c =
    (heights (fetched c.requires.room c.requires.stands c.nest-nest.ensures.sound c.requires.instr c.in-JumpZ.is)).0

pub pop-word-requires-in-JumpZ-clause-inside : goal.pop-word-requires-in-JumpZ-clause-inside
pop-word-requires-in-JumpZ-clause-inside c =
    inside (fetched c.requires.room c.requires.stands c.nest-nest.ensures.sound c.requires.instr c.in-JumpZ.is)

pub combine-requires-clause-filled : goal.combine-requires-clause-filled
combine-requires-clause-filled c =
    (heights (fetched c.requires.room c.requires.stands c.nest-nest.ensures.sound c.requires.instr c.in-Add.is)).0

pub combine-requires-clause-inside : goal.combine-requires-clause-inside
combine-requires-clause-inside c =
    inside (fetched c.requires.room c.requires.stands c.nest-nest.ensures.sound c.requires.instr c.in-Add.is)

pub combine-requires-in-Sub-clause-filled : goal.combine-requires-in-Sub-clause-filled
combine-requires-in-Sub-clause-filled c =
    (heights (fetched c.requires.room c.requires.stands c.nest-nest.ensures.sound c.requires.instr c.in-Sub.is)).0

pub combine-requires-in-Sub-clause-inside : goal.combine-requires-in-Sub-clause-inside
combine-requires-in-Sub-clause-inside c =
    inside (fetched c.requires.room c.requires.stands c.nest-nest.ensures.sound c.requires.instr c.in-Sub.is)

pub combine-requires-in-Mul-clause-filled : goal.combine-requires-in-Mul-clause-filled
combine-requires-in-Mul-clause-filled c =
    (heights (fetched c.requires.room c.requires.stands c.nest-nest.ensures.sound c.requires.instr c.in-Mul.is)).0

pub combine-requires-in-Mul-clause-inside : goal.combine-requires-in-Mul-clause-inside
combine-requires-in-Mul-clause-inside c =
    inside (fetched c.requires.room c.requires.stands c.nest-nest.ensures.sound c.requires.instr c.in-Mul.is)

pub combine-requires-in-Div-clause-filled : goal.combine-requires-in-Div-clause-filled
combine-requires-in-Div-clause-filled c =
    (heights (fetched c.requires.room c.requires.stands c.nest-nest.ensures.sound c.requires.instr c.in-Div.is)).0

pub combine-requires-in-Div-clause-inside : goal.combine-requires-in-Div-clause-inside
combine-requires-in-Div-clause-inside c =
    inside (fetched c.requires.room c.requires.stands c.nest-nest.ensures.sound c.requires.instr c.in-Div.is)

pub combine-requires-in-Rem-clause-filled : goal.combine-requires-in-Rem-clause-filled
combine-requires-in-Rem-clause-filled c =
    (heights (fetched c.requires.room c.requires.stands c.nest-nest.ensures.sound c.requires.instr c.in-Rem.is)).0

pub combine-requires-in-Rem-clause-inside : goal.combine-requires-in-Rem-clause-inside
combine-requires-in-Rem-clause-inside c =
    inside (fetched c.requires.room c.requires.stands c.nest-nest.ensures.sound c.requires.instr c.in-Rem.is)

pub combine-requires-in-And-clause-filled : goal.combine-requires-in-And-clause-filled
combine-requires-in-And-clause-filled c =
    (heights (fetched c.requires.room c.requires.stands c.nest-nest.ensures.sound c.requires.instr c.in-And.is)).0

pub combine-requires-in-And-clause-inside : goal.combine-requires-in-And-clause-inside
combine-requires-in-And-clause-inside c =
    inside (fetched c.requires.room c.requires.stands c.nest-nest.ensures.sound c.requires.instr c.in-And.is)

pub combine-requires-in-Or-clause-filled : goal.combine-requires-in-Or-clause-filled
combine-requires-in-Or-clause-filled c =
    (heights (fetched c.requires.room c.requires.stands c.nest-nest.ensures.sound c.requires.instr c.in-Or.is)).0

pub combine-requires-in-Or-clause-inside : goal.combine-requires-in-Or-clause-inside
combine-requires-in-Or-clause-inside c =
    inside (fetched c.requires.room c.requires.stands c.nest-nest.ensures.sound c.requires.instr c.in-Or.is)

pub combine-requires-in-Xor-clause-filled : goal.combine-requires-in-Xor-clause-filled
combine-requires-in-Xor-clause-filled c =
    (heights (fetched c.requires.room c.requires.stands c.nest-nest.ensures.sound c.requires.instr c.in-Xor.is)).0

pub combine-requires-in-Xor-clause-inside : goal.combine-requires-in-Xor-clause-inside
combine-requires-in-Xor-clause-inside c =
    inside (fetched c.requires.room c.requires.stands c.nest-nest.ensures.sound c.requires.instr c.in-Xor.is)

pub combine-requires-in-Shl-clause-filled : goal.combine-requires-in-Shl-clause-filled
combine-requires-in-Shl-clause-filled c =
    (heights (fetched c.requires.room c.requires.stands c.nest-nest.ensures.sound c.requires.instr c.in-Shl.is)).0

pub combine-requires-in-Shl-clause-inside : goal.combine-requires-in-Shl-clause-inside
combine-requires-in-Shl-clause-inside c =
    inside (fetched c.requires.room c.requires.stands c.nest-nest.ensures.sound c.requires.instr c.in-Shl.is)

pub combine-requires-in-Shr-clause-filled : goal.combine-requires-in-Shr-clause-filled
combine-requires-in-Shr-clause-filled c =
    (heights (fetched c.requires.room c.requires.stands c.nest-nest.ensures.sound c.requires.instr c.in-Shr.is)).0

pub combine-requires-in-Shr-clause-inside : goal.combine-requires-in-Shr-clause-inside
combine-requires-in-Shr-clause-inside c =
    inside (fetched c.requires.room c.requires.stands c.nest-nest.ensures.sound c.requires.instr c.in-Shr.is)

pub combine-requires-in-Lt-clause-filled : goal.combine-requires-in-Lt-clause-filled
combine-requires-in-Lt-clause-filled c =
    (heights (fetched c.requires.room c.requires.stands c.nest-nest.ensures.sound c.requires.instr c.in-Lt.is)).0

pub combine-requires-in-Lt-clause-inside : goal.combine-requires-in-Lt-clause-inside
combine-requires-in-Lt-clause-inside c =
    inside (fetched c.requires.room c.requires.stands c.nest-nest.ensures.sound c.requires.instr c.in-Lt.is)

pub combine-requires-in-Eq-clause-filled : goal.combine-requires-in-Eq-clause-filled
combine-requires-in-Eq-clause-filled c =
    (heights (fetched c.requires.room c.requires.stands c.nest-nest.ensures.sound c.requires.instr c.in-Eq.is)).0

pub combine-requires-in-Eq-clause-inside : goal.combine-requires-in-Eq-clause-inside
combine-requires-in-Eq-clause-inside c =
    inside (fetched c.requires.room c.requires.stands c.nest-nest.ensures.sound c.requires.instr c.in-Eq.is)

pub load-requires-clause-named : goal.load-requires-clause-named
load-requires-clause-named c =
    let f = fetched c.requires.room c.requires.stands c.nest-nest.ensures.sound c.requires.instr c.in-Load.is in
    let named = operand f in omega (arith, named)

pub store-requires-clause-named : goal.store-requires-clause-named
store-requires-clause-named c =
    let f = fetched c.requires.room c.requires.stands c.nest-nest.ensures.sound c.requires.instr c.in-Store.is in
    let named = operand f in omega (arith, named)

pub bounds-deref_mut-output : goal.bounds-deref_mut-output
bounds-deref_mut-output c =
    let f = fetched c.requires.room c.requires.stands c.nest-nest.ensures.sound c.requires.instr c.in-Out.is in
    let named = operand f in omega (arith, named, c.requires.stands.agrees.outs, ap length c.deref_mut.ensures.value)

-- no more than 32 loops are open
pub begin-requires-clause-few : goal.begin-requires-clause-few
begin-requires-clause-few c =
    let f = fetched c.requires.room c.requires.stands c.nest-nest.ensures.sound c.requires.instr c.in-Begin.is in
    let few = uncrowded c.args.code.now c.nest-nest.ensures.sound c.args.self.now.place c.in-Begin.rounds f.at in omega (arith, few, c.requires.stands.depth)

pub begin-requires-clause-matched : goal.begin-requires-clause-matched
begin-requires-clause-matched c =
    let f = fetched c.requires.room c.requires.stands c.nest-nest.ensures.sound c.requires.instr c.in-Begin.is in
    let matched = (braced c.args.code.now c.nest-nest.ensures.sound).begins c.args.self.now.place c.in-Begin.rounds f.at in rw (c.nest-nest.ensures.code, matched.1) refl

pub end_round-requires-clause-few : goal.end_round-requires-clause-few
end_round-requires-clause-few c =
    let few = enclosing_few c.args.code.now c.nest-nest.ensures.sound c.args.self.now.place c.requires.stands.agrees.within in omega (arith, few, c.requires.stands.depth)

pub returns-in-Load : goal.returns-in-Load
returns-in-Load c inputs =
    let f = fetched c.requires.room c.requires.stands c.nest-nest.ensures.sound c.requires.instr c.in-Load.is in
    let h = heights f in
    let named = operand f in
    pushes_word inputs f _ _
    (record { nests = λ next loops. refl; costs = λ cs. refl; heights = λ next trail. refl }) (omega (arith, h.1)) refl
    (locals_of-get c.args.words.now c.in-Load.local (omega (arith, named)) (omega (arith, f.wide)))
    c.load.ensures.up c.load.ensures.words

-- it pops a word
pub returns-in-Store : goal.returns-in-Store
returns-in-Store c inputs =
    let f = fetched c.requires.room c.requires.stands c.nest-nest.ensures.sound c.requires.instr c.in-Store.is in
    stores inputs f _ refl c.store.ensures.down c.store.ensures.words

pub returns-in-Out : goal.returns-in-Out
returns-in-Out c inputs =
    let f = fetched c.requires.room c.requires.stands c.nest-nest.ensures.sound c.requires.instr c.in-Out.is in
    puts_out inputs f c.pop-word.result c.pop-word.ensures.word c.pop-word.ensures.down
    (rw c.deref_mut.ensures.value (refill-set c.args.outs.now.items c.in-Out.output c.pop-word.result))

-- it makes one word of several
pub returns-in-Mid : goal.returns-in-Mid
returns-in-Mid c inputs =
    let f = fetched c.requires.room c.requires.stands c.nest-nest.ensures.sound c.requires.instr c.in-Mid.is in
    middles inputs f c.middle.ensures.down c.middle.ensures.words

pub returns-in-Add : goal.returns-in-Add
returns-in-Add c inputs =
    let f = fetched c.requires.room c.requires.stands c.nest-nest.ensures.sound c.requires.instr c.in-Add.is in
    let words = c.combine.ensures.words in
    combines inputs f (combining Add refl) c.combine.ensures.down words.0 words.1.2 words.2

pub returns-in-Sub : goal.returns-in-Sub
returns-in-Sub c inputs =
    let f = fetched c.requires.room c.requires.stands c.nest-nest.ensures.sound c.requires.instr c.in-Sub.is in
    let words = c.combine-in-Sub.ensures.words in
    combines inputs f (combining Sub refl) c.combine-in-Sub.ensures.down words.0 words.1.2 words.2

pub returns-in-Mul : goal.returns-in-Mul
returns-in-Mul c inputs =
    let f = fetched c.requires.room c.requires.stands c.nest-nest.ensures.sound c.requires.instr c.in-Mul.is in
    let words = c.combine-in-Mul.ensures.words in
    combines inputs f (combining Mul refl) c.combine-in-Mul.ensures.down words.0 words.1.2 words.2

pub returns-in-Div : goal.returns-in-Div
returns-in-Div c inputs =
    let f = fetched c.requires.room c.requires.stands c.nest-nest.ensures.sound c.requires.instr c.in-Div.is in
    let words = c.combine-in-Div.ensures.words in
    combines inputs f (combining Div refl) c.combine-in-Div.ensures.down words.0 words.1.2 words.2

pub returns-in-Rem : goal.returns-in-Rem
returns-in-Rem c inputs =
    let f = fetched c.requires.room c.requires.stands c.nest-nest.ensures.sound c.requires.instr c.in-Rem.is in
    let words = c.combine-in-Rem.ensures.words in
    combines inputs f (combining Rem refl) c.combine-in-Rem.ensures.down words.0 words.1.2 words.2

pub returns-in-And : goal.returns-in-And
returns-in-And c inputs =
    let f = fetched c.requires.room c.requires.stands c.nest-nest.ensures.sound c.requires.instr c.in-And.is in
    let words = c.combine-in-And.ensures.words in
    combines inputs f (combining And refl) c.combine-in-And.ensures.down words.0 words.1.2 words.2

pub returns-in-Or : goal.returns-in-Or
returns-in-Or c inputs =
    let f = fetched c.requires.room c.requires.stands c.nest-nest.ensures.sound c.requires.instr c.in-Or.is in
    let words = c.combine-in-Or.ensures.words in
    combines inputs f (combining Or refl) c.combine-in-Or.ensures.down words.0 words.1.2 words.2

pub returns-in-Xor : goal.returns-in-Xor
returns-in-Xor c inputs =
    let f = fetched c.requires.room c.requires.stands c.nest-nest.ensures.sound c.requires.instr c.in-Xor.is in
    let words = c.combine-in-Xor.ensures.words in
    combines inputs f (combining Xor refl) c.combine-in-Xor.ensures.down words.0 words.1.2 words.2

pub returns-in-Shl : goal.returns-in-Shl
returns-in-Shl c inputs =
    let f = fetched c.requires.room c.requires.stands c.nest-nest.ensures.sound c.requires.instr c.in-Shl.is in
    let words = c.combine-in-Shl.ensures.words in
    combines inputs f (combining Shl refl) c.combine-in-Shl.ensures.down words.0 words.1.2 words.2

pub returns-in-Shr : goal.returns-in-Shr
returns-in-Shr c inputs =
    let f = fetched c.requires.room c.requires.stands c.nest-nest.ensures.sound c.requires.instr c.in-Shr.is in
    let words = c.combine-in-Shr.ensures.words in
    combines inputs f (combining Shr refl) c.combine-in-Shr.ensures.down words.0 words.1.2 words.2

pub returns-in-Lt : goal.returns-in-Lt
returns-in-Lt c inputs =
    let f = fetched c.requires.room c.requires.stands c.nest-nest.ensures.sound c.requires.instr c.in-Lt.is in
    let words = c.combine-in-Lt.ensures.words in
    combines inputs f (combining Lt refl) c.combine-in-Lt.ensures.down words.0 words.1.2 words.2

pub returns-in-Eq : goal.returns-in-Eq
returns-in-Eq c inputs =
    let f = fetched c.requires.room c.requires.stands c.nest-nest.ensures.sound c.requires.instr c.in-Eq.is in
    let words = c.combine-in-Eq.ensures.words in
    combines inputs f (combining Eq refl) c.combine-in-Eq.ensures.down words.0 words.1.2 words.2

-- it jumps, or goes on
pub returns-in-JumpZ : goal.returns-in-JumpZ
returns-in-JumpZ c inputs =
    let f = fetched c.requires.room c.requires.stands c.nest-nest.ensures.sound c.requires.instr c.in-JumpZ.is in
    jumps_at_zero inputs c.pop-word-in-JumpZ.result f c.pop-word-in-JumpZ.ensures.word
    c.pop-word-in-JumpZ.ensures.down c.jump_at_zero.ensures.zero c.jump_at_zero.ensures.other

pub returns-in-Jump : goal.returns-in-Jump
returns-in-Jump c inputs =
    let f = fetched c.requires.room c.requires.stands c.nest-nest.ensures.sound c.requires.instr c.in-Jump.is in
    jumps inputs f refl

-- it begins or ends a round
pub returns-in-Begin : goal.returns-in-Begin
returns-in-Begin c inputs =
    let f = fetched c.requires.room c.requires.stands c.nest-nest.ensures.sound c.requires.instr c.in-Begin.is in
    let is = c.nest-nest.ensures.code in begins inputs c.in-Begin.rounds f (rw is at c.begin.ensures.none) c.begin.ensures.some

pub returns-in-Some : goal.returns-in-Some
returns-in-Some c inputs =
    let f = fetched c.requires.room c.requires.stands c.nest-nest.ensures.sound c.requires.instr c.in-End.is in
    ends inputs f (rw c.nest-nest.ensures.code at (sym c.start.ensures.found ∙ c.in-Some.is)) c.end_round.ensures.ended

pub returns-in_default : goal.returns-in_default
returns-in_default c inputs =
    let f = fetched c.requires.room c.requires.stands c.nest-nest.ensures.sound c.requires.instr c.in-End.is in
    absurd (started inputs f (rw c.nest-nest.ensures.code at (sym c.start.ensures.found ∙ c.in_default.is)))

pub begin-requires-clause-inside : goal.begin-requires-clause-inside
begin-requires-clause-inside c = grind (arith, common_steps)

pub end_round-requires-clause-open : goal.end_round-requires-clause-open
end_round-requires-clause-open c = grind (arith, common_steps)

pub combine-requires-in-Lt-clause-room : goal.combine-requires-in-Lt-clause-room
combine-requires-in-Lt-clause-room c = c.requires.room

pub combine-requires-in-Xor-clause-callable : goal.combine-requires-in-Xor-clause-callable
combine-requires-in-Xor-clause-callable c = grind arith

pub unreachable-requires : goal.unreachable-requires
unreachable-requires c = grind arith

pub combine-requires-in-Div-clause-callable : goal.combine-requires-in-Div-clause-callable
combine-requires-in-Div-clause-callable c = grind arith

pub combine-requires-in-Mul-clause-callable : goal.combine-requires-in-Mul-clause-callable
combine-requires-in-Mul-clause-callable c = grind arith

pub end_round-requires-clause-room : goal.end_round-requires-clause-room
end_round-requires-clause-room c = c.requires.room

pub combine-requires-in-Eq-clause-callable : goal.combine-requires-in-Eq-clause-callable
combine-requires-in-Eq-clause-callable c = grind arith

pub combine-requires-in-And-clause-callable : goal.combine-requires-in-And-clause-callable
combine-requires-in-And-clause-callable c = grind arith

pub combine-requires-in-Rem-clause-room : goal.combine-requires-in-Rem-clause-room
combine-requires-in-Rem-clause-room c = c.requires.room

pub combine-requires-in-Sub-clause-room : goal.combine-requires-in-Sub-clause-room
combine-requires-in-Sub-clause-room c = c.requires.room

pub middle-requires-clause-room : goal.middle-requires-clause-room
middle-requires-clause-room c = c.requires.room

pub combine-requires-in-Sub-clause-callable : goal.combine-requires-in-Sub-clause-callable
combine-requires-in-Sub-clause-callable c = grind arith

pub load-requires-clause-room : goal.load-requires-clause-room
load-requires-clause-room c = c.requires.room

pub combine-requires-in-Lt-clause-callable : goal.combine-requires-in-Lt-clause-callable
combine-requires-in-Lt-clause-callable c = grind arith

pub begin-requires-clause-room : goal.begin-requires-clause-room
begin-requires-clause-room c = c.requires.room

pub combine-requires-in-Shr-clause-callable : goal.combine-requires-in-Shr-clause-callable
combine-requires-in-Shr-clause-callable c = grind arith

pub start-requires : goal.start-requires
start-requires c = grind arith

pub combine-requires-in-Shr-clause-room : goal.combine-requires-in-Shr-clause-room
combine-requires-in-Shr-clause-room c = c.requires.room

pub store-requires-clause-room : goal.store-requires-clause-room
store-requires-clause-room c = c.requires.room

pub combine-requires-in-Or-clause-callable : goal.combine-requires-in-Or-clause-callable
combine-requires-in-Or-clause-callable c = grind arith

pub combine-requires-in-Eq-clause-room : goal.combine-requires-in-Eq-clause-room
combine-requires-in-Eq-clause-room c = c.requires.room

pub combine-requires-in-Shl-clause-callable : goal.combine-requires-in-Shl-clause-callable
combine-requires-in-Shl-clause-callable c = grind arith

pub combine-requires-in-Or-clause-room : goal.combine-requires-in-Or-clause-room
combine-requires-in-Or-clause-room c = c.requires.room

pub combine-requires-in-Rem-clause-callable : goal.combine-requires-in-Rem-clause-callable
combine-requires-in-Rem-clause-callable c = grind arith

pub combine-requires-in-Mul-clause-room : goal.combine-requires-in-Mul-clause-room
combine-requires-in-Mul-clause-room c = c.requires.room

pub combine-requires-in-Div-clause-room : goal.combine-requires-in-Div-clause-room
combine-requires-in-Div-clause-room c = c.requires.room

pub combine-requires-clause-room : goal.combine-requires-clause-room
combine-requires-clause-room c = c.requires.room

pub combine-requires-clause-callable : goal.combine-requires-clause-callable
combine-requires-clause-callable c = grind arith

pub combine-requires-in-Xor-clause-room : goal.combine-requires-in-Xor-clause-room
combine-requires-in-Xor-clause-room c = c.requires.room

pub combine-requires-in-And-clause-room : goal.combine-requires-in-And-clause-room
combine-requires-in-And-clause-room c = c.requires.room

pub pop-word-requires-in-JumpZ-clause-room : goal.pop-word-requires-in-JumpZ-clause-room
pop-word-requires-in-JumpZ-clause-room c = c.requires.room

pub combine-requires-in-Shl-clause-room : goal.combine-requires-in-Shl-clause-room
combine-requires-in-Shl-clause-room c = c.requires.room

pub pop-word-requires-clause-room : goal.pop-word-requires-clause-room
pop-word-requires-clause-room c = c.requires.room

pub offset_bounds-deref_mut-output : goal.offset_bounds-deref_mut-output
offset_bounds-deref_mut-output c = grind arith

pub overflow_cast-start : goal.overflow_cast-start
overflow_cast-start c = grind arith
