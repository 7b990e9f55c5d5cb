-- A story with one deed more, and what each unit's part of it tells.
use Rattle.std.proofs.Common.{◌≡◌, ◌≢◌, ℕ, List, [], ◌∷◌, length, slice_index, refl, sym, ap, ◌∙◌, subst, eq-eqb, ne_eqb}
use mathlib.Core.Logic.{dite}
use native.Mathlib.Decide.{ℕ_discrete}
use Rattle.sift_buffer.specs.Ranges.{Ranges}
use Rattle.sift_buffer.specs.Conduct.{Conduct, put, with_seen, with_heard}
use Rattle.sift_buffer.specs.Core.{Core, after}
use Rattle.sift_buffer.specs.Lawful.{Lawful}
use Rattle.sift_buffer.specs.Laws.{FreshIsLawful, EventsKeepLawful}
use Rattle.sift_ether.specs.declared.rule.Deed.{Deed}
use Rattle.sift_ether.specs.declared.rule.Deed.TheVariants.{Looked, Said, Heard, Entered, Turned, Strayed}
use Rattle.sift_ether.specs.Deeds.{conduct_after, conduct_by, chronicle_with, with_deed}
use Rattle.sift_ether.specs.Stories.{Doing, Happens, FindsThere, core_after, deeds_of, event_by, part_of}

-- the unit's own part has the deed more
pub part_more : (xs : List Doing) (u : ℕ) (e : Deed) → part_of (record { unit = u; deed = e } ∷ xs) u ≡ chronicle_with (part_of xs u) (length xs) e
part_more xs u e = rw (eq-eqb u u refl) refl

-- another unit's part stays
pub part_else : (xs : List Doing) (u : ℕ) (e : Deed) (v : ℕ) → v ≢ u → part_of (record { unit = u; deed = e } ∷ xs) v ≡ part_of xs v
part_else xs u e v ne = rw (ne_eqb v u ne) refl

-- the event of a deed makes of its unit's conduct what the deed does
event_conduct : (r : Ranges) (c : Core) (u : ℕ) (e : Deed) → FindsThere r c.words u e → (after r c (event_by u e)).of ≡ put c.of u (with_deed (c.of u) e)
event_conduct r c u (Looked p n) there = λ i. put c.of u (with_seen (c.of u) p (sym there i))
event_conduct r c u (Said f k q s w) there = refl
event_conduct r c u (Heard f k p s w) there = λ i. put c.of u (with_heard (c.of u) f k p s (sym there i))
event_conduct r c u Entered there = refl
event_conduct r c u Turned there = refl
event_conduct r c u (Strayed q k x) there = refl

-- after a deed, the conduct is again what the part tells
conduct_more : (of : ℕ → Conduct) (x : Doing) (xs : List Doing) (v : ℕ) → ((u : ℕ) → of u ≡ conduct_by (part_of xs u)) →
    put of x.unit (with_deed (of x.unit) x.deed) v ≡ conduct_by (part_of (x ∷ xs) v)
conduct_more of x xs v told = dite (ℕ_discrete v x.unit)
    (λ e. rw (eq-eqb v x.unit e) (ap (λ (d : Conduct). with_deed d x.deed) (ap of (sym e) ∙ told v)))
    (λ ne. rw (ne_eqb v x.unit ne) (told v))

-- each unit conducts itself as its part tells
pub told_conduct : (r : Ranges) (xs : List Doing) → Happens r xs → (v : ℕ) → (core_after r xs).of v ≡ conduct_by (part_of xs v)
told_conduct r [] h v = refl
told_conduct r (x ∷ xs) h v = (λ i. event_conduct r (core_after r xs) x.unit x.deed h.1 i v) ∙ conduct_more (core_after r xs).of x xs v (told_conduct r xs h.2)

-- a story that happened leads to a lawful core
happened_lawful : FreshIsLawful → EventsKeepLawful → (r : Ranges) (xs : List Doing) → Happens r xs → Lawful r (core_after r xs)
happened_lawful fresh keep r [] h = fresh r
happened_lawful fresh keep r (x ∷ xs) h = keep r (core_after r xs) (event_by x.unit x.deed ∷ []) (happened_lawful fresh keep r xs h.2) (h.0, tt)

-- and so do its words with what the units' parts tell
pub told_lawful : FreshIsLawful → EventsKeepLawful → (r : Ranges) (xs : List Doing) → Happens r xs →
    Lawful r (record { words = (core_after r xs).words; of = λ u. conduct_by (part_of xs u) })
told_lawful fresh keep r xs h = subst (Lawful r) (λ i. record { words = (core_after r xs).words; of = λ u. told_conduct r xs h u i })
    (happened_lawful fresh keep r xs h)
