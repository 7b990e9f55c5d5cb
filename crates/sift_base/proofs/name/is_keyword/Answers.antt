use Rattle.std.proofs.Common.{◌≡◌, ℕ, ◌<◌, ◌↔◌, IsTrue, true, List, length, slice_index_or, lit<, sym, rules}
use Rattle.std.specs.List.{Contains}
use Rattle.sift_base.specs.Name.{keywords}
use Rattle.sift_base.proofs.name.is_keyword.Goals as goal

-- the keyword at this place is one of the keywords
keywords-at : (at : ℕ) (bytes : List ℕ) → at < length keywords → bytes ≡ slice_index_or keywords at bytes → IsTrue true ↔ Contains keywords bytes
keywords-at at bytes within is = (λ _. (at, within, sym is), λ _. search rules)

pub returns-in-let-3 : goal.returns-in-let-3
returns-in-let-3 c = keywords-at 2 _ (lit< tt) c.in-let.is-if

pub returns-in-let-4 : goal.returns-in-let-4
returns-in-let-4 c = keywords-at 3 _ (lit< tt) c.in-let.is-else

pub returns-in-let-5 : goal.returns-in-let-5
returns-in-let-5 c = keywords-at 4 _ (lit< tt) c.in-let.is-repeat

pub returns-in-let-6 : goal.returns-in-let-6
returns-in-let-6 c = keywords-at 5 _ (lit< tt) c.in-let.is-mid

pub returns-in-let-7 : goal.returns-in-let-7
returns-in-let-7 c = keywords-at 6 _ (lit< tt) c.in-let.is-sense

pub returns-in-let-8 : goal.returns-in-let-8
returns-in-let-8 c = keywords-at 7 _ (lit< tt) c.in-let.is-now
