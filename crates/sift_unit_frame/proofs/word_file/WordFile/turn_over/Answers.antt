use Rattle.std.proofs.Common.{rules, ◌≡◌, false, true, ◌∙◌, sym, arith}
use Rattle.sift_unit_frame.specs.FrameWords.{next_words}
use Rattle.sift_unit_frame.proofs.Filing.{voted_long, turned_file, turned_is, turned_room, begun_file, begun_is}
use Rattle.sift_unit_frame.proofs.word_file.WordFile.turn_over.Goals as goal

-- where the unit leaves, no words will be made
pub invariant_of-self : goal.invariant_of-self
invariant_of-self c =
    turned_file _ _ _ _ _ _ _ _ _ _ _ c.self.invariant _ c.release.ensures.first c.release.ensures.live _ c.load-voted.ensures _ _ c.deref.ensures.0 c.store.ensures

pub returns-then-not-stays : goal.returns-then-not-stays
returns-then-not-stays c =
    let leaves : c.args.stays ≡ false = search (rules, c.if-not-stays.true) in
    turned_is _ _ _ _ _ _ _ _ _ _ _ c.self.invariant _ c.release.ensures.first c.release.ensures.live _ c.load-voted.ensures _ _ c.deref.ensures.0 c.store.ensures
    ∙ (λ i. next_words (sym leaves i) (c.self.view_is i))

-- the span of those before was released
pub carve-requires-clause-room : goal.carve-requires-clause-room
carve-requires-clause-room c =
    let file = turned_file _ _ _ _ _ _ _ _ _ _ _ c.self.invariant _ c.release.ensures.first c.release.ensures.live _ c.load-voted.ensures _ _ c.deref.ensures.0 c.store.ensures in
    omega (arith, file.carved.scratch, file.carved.room)

-- there is room for them, since the span of those before was released
pub carve-requires-clause-words : goal.carve-requires-clause-words
carve-requires-clause-words c =
    let room = turned_room _ _ _ _ _ _ _ _ _ _ _ c.self.invariant _ c.release.ensures.first c.release.ensures.live _ c.load-voted.ensures _ _ c.deref.ensures.0 c.store.ensures in
    let long = voted_long _ _ _ _ _ _ _ _ _ _ _ c.self.invariant in
    omega (arith, room, long, c.len-words.ensures.value)

-- and where it stays, there are zeros
pub invariant_of-self-2 : goal.invariant_of-self-2
invariant_of-self-2 c =
    begun_file _ _ _ _ _ _ _ _ _ _ _ c.self.invariant _ c.release.ensures.first c.release.ensures.live _ c.load-voted.ensures _ _ c.deref.ensures.0 c.store.ensures
    _ _ _ c.len-words.ensures.value c.carve.ensures

pub returns : goal.returns
returns c =
    let stays : c.args.stays ≡ true = search (rules, c.if-not-stays.false) in
    begun_is _ _ _ _ _ _ _ _ _ _ _ c.self.invariant _ c.release.ensures.first c.release.ensures.live _ c.load-voted.ensures _ _ c.deref.ensures.0 c.store.ensures
    _ _ _ c.len-words.ensures.value c.carve.ensures
    ∙ (λ i. next_words (sym stays i) (c.self.view_is i))
