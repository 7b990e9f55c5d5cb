use Rattle.std.proofs.Common.{◌≡◌, ℕ, List, String, Global, map, string_bytes, sym, subst}
use Rattle.sift_alone.specs.Flown.{flying_with}
use Rattle.sift_reply.specs.Reply.{Input, Output}
use Rattle.sift_reply.specs.Promise.{AskForNoInput, IsAnswered, IsCertain}
use Rattle.sift_commands.specs.Command.{commands}
use Rattle.sift_commands.specs.Headline.{IsCaughtWritten, IsHeadlineWritten}
use Rattle.sift_run.proofs.top.exit_code.Goals as goal

-- the program ends with the status that was answered
pub returns-in-Ok-Ok-clause-answered : goal.returns-in-Ok-Ok-clause-answered
returns-in-Ok-Ok-clause-answered g c =
    let came : Input = record { before = g.S.Source.inflow c.args.source.now; after = g.S.Source.inflow c.sift.new.source } in
    let went : Output = record { before = g.K.Sink.outflow c.args.sink.now; after = g.K.Sink.outflow c.sift.new.sink } in
    let Holds : List (String Global) → ℕ → Type 0 = λ ws n. IsAnswered (commands (flying_with g.R.Rogue.allows c.in-Ok-Ok.rogues.items)) (map (string_bytes {Z = Global}) ws) came went n in
    rw c.in-Ok-Ok.is-0 (rw c.in-Ok-Ok.is-1 (subst (Holds c.in-Ok-Ok.words.items) (sym c.from.ensures)
    (subst (λ (ws : List (String Global)). Holds ws c.sift.result) c.deref.ensures.value c.sift.ensures.answered)))

-- which is certain where the input tells its bytes
pub returns-in-Ok-Ok-clause-certain : goal.returns-in-Ok-Ok-clause-certain
returns-in-Ok-Ok-clause-certain g c =
    let came : Input = record { before = g.S.Source.inflow c.args.source.now; after = g.S.Source.inflow c.sift.new.source } in
    let went : Output = record { before = g.K.Sink.outflow c.args.sink.now; after = g.K.Sink.outflow c.sift.new.sink } in
    let Holds : List (String Global) → ℕ → Type 0 = λ ws n. IsCertain (commands (flying_with g.R.Rogue.allows c.in-Ok-Ok.rogues.items)) (map (string_bytes {Z = Global}) ws) came went n in
    rw c.in-Ok-Ok.is-0 (rw c.in-Ok-Ok.is-1 (subst (Holds c.in-Ok-Ok.words.items) (sym c.from.ensures)
    (subst (λ (ws : List (String Global)). Holds ws c.sift.result) c.deref.ensures.value c.sift.ensures.certain)))

-- and so are the headline
pub returns-in-Ok-Ok-clause-headline : goal.returns-in-Ok-Ok-clause-headline
returns-in-Ok-Ok-clause-headline g c =
    let came : Input = record { before = g.S.Source.inflow c.args.source.now; after = g.S.Source.inflow c.sift.new.source } in
    let went : Output = record { before = g.K.Sink.outflow c.args.sink.now; after = g.K.Sink.outflow c.sift.new.sink } in
    let Holds : List (String Global) → ℕ → Type 0 = λ ws n. IsHeadlineWritten (flying_with g.R.Rogue.allows c.in-Ok-Ok.rogues.items) (map (string_bytes {Z = Global}) ws) came went n in
    rw c.in-Ok-Ok.is-0 (rw c.in-Ok-Ok.is-1 (subst (Holds c.in-Ok-Ok.words.items) (sym c.from.ensures)
    (subst (λ (ws : List (String Global)). Holds ws c.sift.result) c.deref.ensures.value c.sift.ensures.headline)))

-- and what lies cost
pub returns-in-Ok-Ok-clause-caught : goal.returns-in-Ok-Ok-clause-caught
returns-in-Ok-Ok-clause-caught g c =
    let came : Input = record { before = g.S.Source.inflow c.args.source.now; after = g.S.Source.inflow c.sift.new.source } in
    let went : Output = record { before = g.K.Sink.outflow c.args.sink.now; after = g.K.Sink.outflow c.sift.new.sink } in
    let Holds : List (String Global) → ℕ → Type 0 = λ ws n. IsCaughtWritten (flying_with g.R.Rogue.allows c.in-Ok-Ok.rogues.items) (map (string_bytes {Z = Global}) ws) came went n in
    rw c.in-Ok-Ok.is-0 (rw c.in-Ok-Ok.is-1 (subst (Holds c.in-Ok-Ok.words.items) (sym c.from.ensures)
    (subst (λ (ws : List (String Global)). Holds ws c.sift.result) c.deref.ensures.value c.sift.ensures.caught)))

-- the source is left by words that ask for no input
pub returns-in-Ok-Ok-clause-unread : goal.returns-in-Ok-Ok-clause-unread
returns-in-Ok-Ok-clause-unread g c =
    let all = commands (flying_with g.R.Rogue.allows c.in-Ok-Ok.rogues.items) in
    rw c.in-Ok-Ok.is-0 (rw c.in-Ok-Ok.is-1
    (subst (λ (ws : List (String Global)). AskForNoInput all (map (string_bytes {Z = Global}) ws) → c.sift.new.source ≡ c.args.source.now)
    c.deref.ensures.value c.sift.ensures.unread))
