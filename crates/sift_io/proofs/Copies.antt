-- What is known of the bytes that a call copies.
use Rattle.std.proofs.Common.{◌≡◌, ◌+◌, ◌-◌, ℕ, List, ◌++◌, length, take, drop, sym, ap, ◌∙◌}
use Rattle.std.proofs.lemmas.List.{take_at, take_rest, take-append-drop, drop-drop}

-- the bytes from a place on are those that were copied to the front of a buffer, and those behind them
pub drop-copied : (n at : ℕ) (bytes copy behind : List ℕ) → length copy ≡ n
    → copy ≡ take n (take (length bytes - at) (drop at bytes))
    → drop at bytes ≡ take n (copy ++ behind) ++ drop (at + n) bytes
drop-copied n at bytes copy behind size e =
    let next = drop at bytes in
    let front : take n (copy ++ behind) ≡ take n next =
    take_at copy behind n size ∙ e ∙ ap (take n) (take_rest bytes at) in
    sym (take-append-drop n next) ∙ ap (λ l. l ++ drop n next) (sym front)
    ∙ ap (λ l. take n (copy ++ behind) ++ l) (drop-drop n at bytes)
