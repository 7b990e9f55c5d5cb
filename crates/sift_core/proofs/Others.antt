-- Events of one unit leave what the others did and know, and keep the core lawful.
use Rattle.std.proofs.Common.{◌≡◌, ◌≢◌, ℕ, List, [], ◌∷◌, refl, sym, ap, ◌∙◌, subst, ne_eqb}
use Rattle.sift_buffer.specs.Ranges.{Ranges}
use Rattle.sift_buffer.specs.Conduct.{Conduct, put}
use Rattle.sift_buffer.specs.Core.{Core, Event, look, hear, say, enter, turn, stray, doer, after, after_all}
use Rattle.sift_buffer.specs.Lawful.{Lawful}
use Rattle.sift_buffer.specs.Laws.{EventsKeepLawful}
use Rattle.sift_buffer.specs.Reaches.{Reaches, AllBy}

-- a function is as it was elsewhere
put_else : (g : ℕ → Conduct) (i : ℕ) (x : Conduct) (j : ℕ) → j ≢ i → put g i x j ≡ g j
put_else g i x j ne = rw (ne_eqb j i ne) refl

event_else : (r : Ranges) (a : Core) (e : Event) (p : ℕ) → p ≢ doer e → (after r a e).of p ≡ a.of p
event_else r a (look u q) p ne = put_else a.of u _ p ne
event_else r a (hear u q k f s) p ne = put_else a.of u _ p ne
event_else r a (say u q k f s w) p ne = put_else a.of u _ p ne
event_else r a (enter u) p ne = put_else a.of u _ p ne
event_else r a (turn u) p ne = put_else a.of u _ p ne
event_else r a (stray u q k x) p ne = put_else a.of u _ p ne

events_else : (r : Ranges) (u : ℕ) (a : Core) (es : List Event) (p : ℕ) → p ≢ u → AllBy u es → (after_all r a es).of p ≡ a.of p
events_else r u a [] p ne by = refl
events_else r u a (e ∷ es) p ne by = events_else r u (after r a e) es p ne by.1 ∙ event_else r a e p (λ z. ne (z ∙ by.0))

-- what a unit did and knows stays, where another's events reach the core
pub others_stay : (r : Ranges) (u : ℕ) (a b : Core) → Reaches r u a b → (p : ℕ) → p ≢ u → b.of p ≡ a.of p
others_stay r u a b reached p ne = ap (λ (c : Core). c.of p) (sym reached.there) ∙ events_else r u a reached.events p ne reached.by

-- and the core stays lawful
pub reached_lawful : EventsKeepLawful → (r : Ranges) (u : ℕ) (a b : Core) → Reaches r u a b → Lawful r a → Lawful r b
reached_lawful keep r u a b reached lawful = subst (λ (c : Core). Lawful r c) reached.there (keep r a reached.events lawful reached.allowed)
