-- Words that are cut into pieces of given lengths.
use Rattle.std.proofs.Common.{◌≡◌, ℕ, suc, zero, ◌+◌, ◌-◌, ◌<◌, ◌≤◌, List, [], ◌∷◌, ◌++◌, length, map, take, drop, replicate, sum, get_or, set, take-append-drop, refl, sym, ap, ◌∙◌, arith}
use Rattle.std.proofs.lemmas.List.{length-take-le, length-drop, length-append, take-take, drop-take, take-append-le, drop-append-le, nil_from_length, take_all, get_or-take, get_or-drop, take-set-le, drop-set-lt, drop-set-add, drop-drop, take_at, drop_at}
use Rattle.std.specs.List.{concat}
use Rattle.std.proofs.lemmas.Slice.{take-put_mid_below}
use Rattle.std.proofs.Math.Seq.{take-set-lt}
use Rattle.std.proofs.lemmas.List.Sums.{sum_by-cons, sum_by-take-le}
use borrow.Rule.Slice.PartMut.{put_mid}
use Rattle.sift_pool.specs.Layout.{pieces}

-- a sum is its first term and the sum of the others
pub sum-cons : (n : ℕ) (ns : List ℕ) → sum (n ∷ ns) ≡ n + sum ns
sum-cons n ns = sum_by-cons (λ x. x) n ns

-- there is a piece for each length
pub length-pieces : (ns ws : List ℕ) → length (pieces ns ws) ≡ length ns
length-pieces [] ws = refl
length-pieces (n ∷ ns) ws = ap suc (length-pieces ns (drop n ws))

-- each piece is as long as asked for, where there are enough words
pub map-length-pieces : (ns ws : List ℕ) → sum ns ≤ length ws → map length (pieces ns ws) ≡ ns
map-length-pieces [] ws enough = refl
map-length-pieces (n ∷ ns) ws enough =
    let all = sum-cons n ns in
    let long : length (take n ws) ≡ n = length-take-le n ws (omega arith) in
    let rest = map-length-pieces ns (drop n ws) (omega (arith, length-drop n ws)) in
    cc

-- the first pieces are those of the first lengths
pub take-pieces : (k : ℕ) (ns ws : List ℕ) → take k (pieces ns ws) ≡ pieces (take k ns) ws
take-pieces zero ns ws = refl
take-pieces (suc k) [] ws = refl
take-pieces (suc k) (n ∷ ns) ws = ap (λ rest. take n ws ∷ rest) (take-pieces k ns (drop n ws))

-- words past the pieces do not matter
pub pieces-take : (ns ws : List ℕ) (m : ℕ) → sum ns ≤ m → pieces ns (take m ws) ≡ pieces ns ws
pieces-take [] ws m within = refl
pieces-take (n ∷ ns) ws m within =
    let all = sum-cons n ns in
    let head : take n (take m ws) ≡ take n ws = take-take n m ws (omega arith) in
    let split : n + (m - n) ≡ m = omega arith in
    let tail : drop n (take m ws) ≡ take (m - n) (drop n ws) =
    ap (λ k. drop n (take k ws)) (sym split) ∙ drop-take n (m - n) ws in
    let rest = pieces-take ns (drop n ws) (m - n) (omega arith) in
    cc

-- words that are added are a last piece
pub pieces-append : (ns ws zs : List ℕ) → sum ns ≡ length ws → pieces (ns ++ length zs ∷ []) (ws ++ zs) ≡ pieces ns ws ++ zs ∷ []
pieces-append [] ws zs whole =
    let none : ws ≡ [] = nil_from_length ws (omega arith) in
    let all : take (length zs) (ws ++ zs) ≡ zs = rw none (take_all (length zs) zs (omega arith)) in
    cc
pieces-append (n ∷ ns) ws zs whole =
    let all = sum-cons n ns in
    let within : n ≤ length ws = omega arith in
    let head = take-append-le n ws zs within in
    let tail = drop-append-le n ws zs within in
    let rest = pieces-append ns (drop n ws) zs (omega (arith, length-drop n ws)) in
    cc

-- a word of a piece is a word of the whole
pub get_or-pieces : (k : ℕ) (ns ws : List ℕ) (at : ℕ) → k < length ns → at < get_or ns k 0 → get_or (get_or (pieces ns ws) k []) at 0 ≡ get_or ws (sum (take k ns) + at) 0
get_or-pieces k [] ws at there inside = absurd (omega arith)
get_or-pieces zero (n ∷ ns) ws at there inside =
    get_or-take n ws at 0 inside ∙ ap (λ i. get_or ws i 0) (omega arith)
get_or-pieces (suc k) (n ∷ ns) ws at there inside =
    get_or-pieces k ns (drop n ws) at (omega arith) inside
    ∙ get_or-drop n ws (sum (take k ns) + at) 0
    ∙ ap (λ i. get_or ws i 0) (omega (arith, sum-cons n (take k ns)))

-- a write to one word of a piece leaves the other pieces
pub pieces-set : (k : ℕ) (ns ws : List ℕ) (at w : ℕ) → k < length ns → at < get_or ns k 0
    → pieces ns (set ws (sum (take k ns) + at) w) ≡ set (pieces ns ws) k (set (get_or (pieces ns ws) k []) at w)
pieces-set k [] ws at w there inside = absurd (omega arith)
pieces-set zero (n ∷ ns) ws at w there inside =
    let here : sum (take 0 (n ∷ ns)) + at ≡ at = omega arith in
    let head : take n (set ws at w) ≡ set (take n ws) at w = take-set-lt n ws at w inside in
    let tail = drop-set-lt n ws at w inside in
    rw here (cc)
pieces-set (suc k) (n ∷ ns) ws at w there inside =
    let here : sum (take (suc k) (n ∷ ns)) + at ≡ n + (sum (take k ns) + at) =
    omega (arith, sum-cons n (take k ns)) in
    let head = take-set-le n ws (n + (sum (take k ns) + at)) w (omega arith) in
    let tail = drop-set-add n ws (sum (take k ns) + at) w in
    let rest = pieces-set k ns (drop n ws) at w (omega arith) inside in
    rw here (cc)

-- a write past the first words is a write to the rest
drop-put_mid_add : (m a k : ℕ) (ws ys : List ℕ) → m + a ≤ length ws → drop m (put_mid (m + a) k ws ys) ≡ put_mid a k (drop m ws) ys
drop-put_mid_add m a k ws ys enough =
    let within : m ≤ length (take (m + a) ws) = omega (arith, length-take-le (m + a) ws enough) in
    let front = drop-append-le m (take (m + a) ws) (ys ++ drop k (drop (m + a) ws)) within in
    let first = drop-take m a ws in
    let back = drop-drop a m ws in
    cc

-- a write to all words of a piece leaves the other pieces
pub pieces-put_mid : (k : ℕ) (ns ws ys : List ℕ) → k < length ns → length ys ≡ get_or ns k 0 → sum ns ≤ length ws
    → pieces ns (put_mid (sum (take k ns)) (get_or ns k 0) ws ys) ≡ set (pieces ns ws) k ys
pieces-put_mid k [] ws ys there long enough = absurd (omega arith)
pieces-put_mid zero (n ∷ ns) ws ys there long enough =
    let head : take n (ys ++ drop n ws) ≡ ys = take_at ys (drop n ws) n long in
    let tail : drop n (ys ++ drop n ws) ≡ drop n ws = drop_at ys (drop n ws) n long in
    cc
pieces-put_mid (suc k) (n ∷ ns) ws ys there long enough =
    let before = sum-cons n (take k ns) in
    let all = sum-cons n ns in
    let some : sum (take k ns) ≤ sum ns = sum_by-take-le (λ x. x) ns k in
    let head = take-put_mid_below (n + sum (take k ns)) (get_or ns k 0) ws ys n (omega arith) (omega arith) in
    let tail = drop-put_mid_add n (sum (take k ns)) (get_or ns k 0) ws ys (omega arith) in
    let rest = pieces-put_mid k ns (drop n ws) ys (omega arith) long (omega (arith, length-drop n ws)) in
    rw before (cc)

-- a write over as many words leaves the number of words
pub length-put_mid : (start len : ℕ) (ws ys : List ℕ) → length ys ≡ len → start + len ≤ length ws → length (put_mid start len ws ys) ≡ length ws
length-put_mid start len ws ys long within =
    let before : length (take start ws) ≡ start = length-take-le start ws (omega arith) in
    let after = length-append ys (drop len (drop start ws)) in
    omega (arith, length-append (take start ws) (ys ++ drop len (drop start ws)), after, length-drop len (drop start ws), length-drop start ws)

-- a fill of the part from one number to another is a write of as many equal words
pub put_mid-filled : (ws part ys : List ℕ) (from size start len word : ℕ) → part ≡ ws
    → ys ≡ replicate (length (take (from + size - from) (drop from part))) word → from ≡ start → size ≡ len → start + len ≤ length ws
    → put_mid from (from + size - from) part ys ≡ put_mid start len ws (replicate len word)
put_mid-filled ws part ys from size start len word same fills starts long within =
    let size_is : from + size - from ≡ len = omega arith in
    let enough : len ≤ length (drop start ws) = omega (arith, length-drop start ws) in
    let all : length (take len (drop start ws)) ≡ len = length-take-le len (drop start ws) enough in
    cc

-- the pieces of words make up the words
pub concat-pieces : (ns ws : List ℕ) → sum ns ≡ length ws → concat (pieces ns ws) ≡ ws
concat-pieces [] ws whole = sym (nil_from_length ws (omega arith))
concat-pieces (n ∷ ns) ws whole =
    let rest = concat-pieces ns (drop n ws) (omega (arith, sum-cons n ns, length-drop n ws)) in
    ap (λ l. take n ws ++ l) rest ∙ take-append-drop n ws

-- a piece lies behind those before it
pub piece-get_or : (k : ℕ) (ns ws : List ℕ) → k < length ns → get_or (pieces ns ws) k [] ≡ take (get_or ns k 0) (drop (sum (take k ns)) ws)
piece-get_or k [] ws there = absurd (omega arith)
piece-get_or zero (n ∷ ns) ws there = refl
piece-get_or (suc k) (n ∷ ns) ws there =
    let before = sum-cons n (take k ns) in
    let rest = piece-get_or k ns (drop n ws) (omega arith) in
    let back = drop-drop (sum (take k ns)) n ws in
    cc
