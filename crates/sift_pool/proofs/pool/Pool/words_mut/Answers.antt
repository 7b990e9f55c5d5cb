use Rattle.std.proofs.Common.{◌≡◌, ℕ, List, length, arith, refl, sym, ap, subst, ◌∙◌}
use Rattle.std.proofs.lemmas.Grind.{common_steps}
use Rattle.sift_pool.specs.Region.{Region, KeepsLive, words_at, with_words}
use Rattle.sift_pool.specs.Lending.{Rewrites, with_words_from}
use Rattle.sift_pool.proofs.Live.{KeepsLive-with_words}
use Rattle.sift_pool.proofs.Laid.{held, laid_region-spans, live_within, live_from, live_words, live_alone}
use Rattle.sift_pool.proofs.pool.Pool.words_mut.Goals as goal

pub overflow_add-span-inside : goal.overflow_add-span-inside
overflow_add-span-inside c =
    let holds = held _ _ _ _ _ c.self.view_is c.self.invariant in
    let within = live_within _ _ _ _ _ holds _ _ c.span.view_is c.requires in
    omega (arith, within.0, within.1, c.self.inside.words.ok, c.self.inside.words.small)

pub slice_mut-requires-clause-in_bounds : goal.slice_mut-requires-clause-in_bounds
slice_mut-requires-clause-in_bounds c =
    let holds = held _ _ _ _ _ c.self.view_is c.self.invariant in
    let within = live_within _ _ _ _ _ holds _ _ c.span.view_is c.requires in
    omega (arith, within.0, within.1, c.self.inside.words.ok)

-- the words of a span, written over it alone, leave each span live
rewrites : (region : Region) (number : ℕ) (ws : List ℕ) → length ws ≡ length (words_at region number)
    → with_words_from region number ws ≡ with_words region number ws → Rewrites number ws region (with_words_from region number ws)
rewrites region number ws long written =
    let Kept : Region → Type 0 = λ new. KeepsLive region new in
    record { written = written; live = subst Kept (sym written) (KeepsLive-with_words region number ws long) }

-- the pool ends as the words behind the slice say
pub returns : goal.returns
returns c =
    let span = c.args.span.now in
    let words = c.self.inside.words in
    let holds = held _ _ _ _ _ c.self.view_is c.self.invariant in (
      (
        refl,
        λ ws. laid_region-spans _ _ _ _ _ holds _ _ _ _ _ refl refl (live_from _ _ _ _ _ holds _ _ words.len ws c.span.view_is c.requires words.ok.0),
      ),
      record {
        writes_back = tt;
        lent = c.slice_mut.ensures.value ∙ live_words _ _ _ _ _ holds _ _ _ c.span.view_is c.requires refl;
        alone = λ ws long. rewrites c.args.self.now span.number ws long
            (ap (λ spans. record c.args.self.now { spans = spans }) (live_alone _ _ _ _ _ holds span ws c.requires (long ∙ sym c.requires.long)));
      },
    )

pub invariant_of-self-lent : goal.invariant_of-self-lent
invariant_of-self-lent c = grind (arith, common_steps)
