use Rattle.std.proofs.Common.{◌∙◌, List, map, ℕ, String, Global, refl, string_bytes}
use Rattle.std.specs.List.{Contains}
use Rattle.std.specs.Map.Iter.{deref}
use Rattle.std.proofs.lemmas.List.Elements.{All-map, All-push}
use Rattle.std.proofs.lemmas.Map.Iter.{iter_end, iter_turn}
use Rattle.sift_document.specs.laws.Arrays.{All-keys_of, at_key}
use Rattle.sift_document.proofs.value.has_only_keys.Goals as goal

-- a key that is not known
pub returns-then-not-is_among : goal.returns-then-not-is_among
returns-then-not-is_among c =
    let start = c.into_iter-key-iterator.ensures.into_iter_gives ∙ c.keys-key-items.ensures.rest in
    let turn = iter_turn (deref {X = String Global}) _ c.loop-key.yielded _ _ _ _ start c.loop-key.yielded_by c.in-Some.key c.in-Some.is c.next.ensures.steps in
    let known : List ℕ → Type 0 = Contains (map (λ text. text.now) c.args.known.now) in (
      λ found. cc,
      λ each.
          let there : known c.as_str.result.now = rw c.as_str.ensures.value (at_key known c.args.table.now.entries _ _ each turn.1) in
          rw c.if-not-is_among.true at c.is_among.ensures.1 there,
    )

-- one more key is known
pub loop-key-preserved : goal.loop-key-preserved
loop-key-preserved c =
    All-push (λ key. Contains (map (λ text. text.now) c.args.known.now) (string_bytes key.now)) c.loop-key.yielded c.in-Some.key c.loop-key.invariant
    (rw c.as_str.ensures.value at c.is_among.ensures.0 c.if-not-is_among.false)

-- all keys were seen
pub returns : goal.returns
returns c =
    let start = c.into_iter-key-iterator.ensures.into_iter_gives ∙ c.keys-key-items.ensures.rest in
    let end = iter_end (deref {X = String Global}) _ c.loop-key.yielded _ _ _ _ start c.loop-key.yielded_by c.in-None.is c.next.ensures.steps in
    let known : List ℕ → Type 0 = Contains (map (λ text. text.now) c.args.known.now) in (
      λ _. All-keys_of known c.args.table.now.entries (rw (← end.0) (All-map (λ key. known (string_bytes key)) (deref {X = String Global}) c.loop-key.yielded c.loop-key.invariant)),
      λ _. refl,
    )
