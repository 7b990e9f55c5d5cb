use Rattle.std.proofs.Common.{◌≡◌, Vec, Global, ℤ, Option, length, refl, ap, sym, ◌∙◌, arith}
use Rattle.std.proofs.lemmas.List.{length-map}
use Rattle.sift_clocklab.specs.Laboratory.{laboratory_of, run_of}
use Rattle.sift_clocklab.specs.Rounds.{offsets_after, run_offsets}
use Rattle.sift_clocklab.specs.Showing.{pairs_of}
use Rattle.sift_clocklab.specs.Pages.{IsBlank}
use Rattle.sift_clocklab.proofs.Lists.{All-front, All-last, rows_more}
use Rattle.sift_clocklab.proofs.Rounds.{latest_kept, run_kept, run_more}
use Rattle.sift_clocklab.proofs.Turns.{round_more_as}
use Rattle.sift_clocklab.proofs.running.run_lab.Goals as goal

-- the latest offsets are kept, and each faulty clock showed each working one something
pub offsets_after-offsets-requires-clause-round : goal.offsets_after-offsets-requires-clause-round
offsets_after-offsets-requires-clause-round g c =
    let lab = laboratory_of c.args.lab.now in
    let run = run_of c.loop-page.run in
    let inv = c.loop-page.invariant in
    record {
      ready = c.requires;
      kept =
          latest_kept lab run.offsets run.shown c.latest.result.now c.requires (omega (arith, inv.rounds, inv.left)) inv.offsets
          c.latest.ensures;
      each_shown = ap length c.deref.ensures.value ∙ c.show_round-shown.ensures.each;
    }

-- the page of a round is blank
pub offsets_after-offsets-requires-clause-empty : goal.offsets_after-offsets-requires-clause-empty
offsets_after-offsets-requires-clause-empty g c =
    let blank = All-last (IsBlank (laboratory_of c.args.lab.now)) c.loop-page.pages.items c.pop.new.self.items c.in-Some.page
    c.in-Some.ensures.items c.loop-page.invariant.blank in
    blank.no_offsets

pub offsets_after-offsets-requires-clause-room : goal.offsets_after-offsets-requires-clause-room
offsets_after-offsets-requires-clause-room g c =
    let blank = All-last (IsBlank (laboratory_of c.args.lab.now)) c.loop-page.pages.items c.pop.new.self.items c.in-Some.page
    c.in-Some.ensures.items c.loop-page.invariant.blank in
    blank.room_for_offsets

-- no round was run yet
pub loop-page-init : goal.loop-page-init
loop-page-init g c =
    let lab = laboratory_of c.args.lab.now in
    let start = c.in_ok-run.ensures in
    record {
      shown = rw start.shown refl;
      offsets = start.offsets ∙ ap (run_offsets lab) (sym start.shown);
      blank = c.in_ok-pages.ensures.blank;
      left = (let each = c.in_ok-pages.ensures.each in let none = start.none in omega arith);
      one_more = (let one = start.one in let none = start.none in omega arith);
      rounds = ap length start.shown ∙ sym start.none;
      lists = ap length start.offsets ∙ sym start.one;
      room_for_offsets = start.room_for_offsets;
      room_for_shown = start.room_for_shown;
    }

pub show_round-shown-requires-clause-empty : goal.show_round-shown-requires-clause-empty
show_round-shown-requires-clause-empty g c =
    let blank = All-last (IsBlank (laboratory_of c.args.lab.now)) c.loop-page.pages.items c.pop.new.self.items c.in-Some.page
    c.in-Some.ensures.items c.loop-page.invariant.blank in
    blank.none_shown

pub show_round-shown-requires-clause-room : goal.show_round-shown-requires-clause-room
show_round-shown-requires-clause-room g c =
    let blank = All-last (IsBlank (laboratory_of c.args.lab.now)) c.loop-page.pages.items c.pop.new.self.items c.in-Some.page
    c.in-Some.ensures.items c.loop-page.invariant.blank in
    blank.room_for_shown

-- a list of offsets is the latest
pub latest-requires : goal.latest-requires
latest-requires g c = (let inv = c.loop-page.invariant in omega (arith, inv.rounds, inv.lists, inv.one_more))

-- one round more was run
pub loop-page-preserved : goal.loop-page-preserved
loop-page-preserved g c =
    let lab = laboratory_of c.args.lab.now in
    let run = run_of c.loop-page.run in
    let inv = c.loop-page.invariant in
    let shown = c.show_round-shown.result in
    let offsets = c.offsets_after-offsets.result in
    let rounds = c.push_reserved in
    let lists = c.push_reserved-in-Some in
    let one_round = rows_more (λ (row : Vec (Option ℤ) Global). row.items) c.loop-page.run.shown.items rounds.new.self.items shown
    rounds.ensures.items in
    let one_list = rows_more (λ (row : Vec ℤ Global). row.items) c.loop-page.run.offsets.items lists.new.self.items offsets
    lists.ensures.items in
    let next : offsets.items ≡ offsets_after lab c.latest.result.now shown.items =
    c.offsets_after-offsets.ensures ∙ ap (offsets_after lab c.latest.result.now) c.deref.ensures.value in
    record {
      shown =
          round_more_as g.F.Face.allows (pairs_of lab) c.args.face.now run.shown _ c.loop-page.face c.rounds.result shown.items
          c.show_round-shown.new.face one_round c.rounds.ensures inv.shown c.show_round-shown.ensures.shown;
      offsets =
          run_more lab run.offsets _ run.shown _ c.latest.result.now offsets.items shown.items inv.offsets one_round one_list
          c.latest.ensures next;
      blank =
          All-front (IsBlank lab) c.loop-page.pages.items c.pop.new.self.items c.in-Some.page c.in-Some.ensures.items inv.blank;
      left = (let fewer = c.in-Some.ensures.cases in let more = rounds.ensures.len in let left = inv.left in omega arith);
      one_more = (let longer = lists.ensures.len in let more = rounds.ensures.len in let one = inv.one_more in omega arith);
      rounds =
          length-map rounds.new.self.items (λ (row : Vec (Option ℤ) Global). row.items)
          ∙ (let ok = rounds.new.self.ok in omega arith);
      lists =
          length-map lists.new.self.items (λ (row : Vec ℤ Global). row.items)
          ∙ (let ok = lists.new.self.ok in omega arith);
      room_for_offsets = (let same = lists.ensures.capacity in let room = inv.room_for_offsets in omega arith);
      room_for_shown = (let same = rounds.ensures.capacity in let room = inv.room_for_shown in omega arith);
    }

pub returns-clause-ran : goal.returns-clause-ran
returns-clause-ran g c =
    let inv = c.loop-page.invariant in
    record { rounds = omega (arith, inv.left, inv.rounds, c.in_default.ensures.cases); shown = inv.shown; offsets = inv.offsets }

pub returns-clause-kept : goal.returns-clause-kept
returns-clause-kept g c =
    let run = run_of c.loop-page.run in
    let inv = c.loop-page.invariant in
    run_kept (laboratory_of c.args.lab.now) run.shown run.offsets c.requires
    (omega (arith, inv.left, inv.rounds, c.in_default.ensures.cases)) inv.offsets
