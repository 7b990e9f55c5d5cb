use Rattle.std.proofs.Common.{◌≡◌, ◌*◌, ◌+◌, ◌≤◌, lit<, pos, ◌+ℤ◌, ◌-ℤ◌, ◌*ℤ◌, w32, arith}
use Rattle.std.proofs.lemmas.Int.{ints, to_z-of_z}
use Rattle.std.proofs.lemmas.Grind.{common_steps}
use Rattle.sift_clocklab.proofs.Products.{held, needed_small, product_fits, product_held, room_decides, room_small}
use Rattle.sift_clocklab.proofs.lab.admits.Goals as goal

pub overflow_mul-result-then-beyond-ge1 : goal.overflow_mul-result-then-beyond-ge1
overflow_mul-result-then-beyond-ge1 c =
    let a = c.args in
    let clocks : held (pos 2 *ℤ held c.from-clocks.result) ≡ pos (2 * a.n) = omega (arith, ints) in
    let changes : held (held a.error +ℤ held a.rate) ≡ a.error +ℤ a.rate = omega (arith, ints) in
    product_fits 64 16000 _ _ _ _ (lit< tt) (needed_small a.n a.m a.skew a.error a.rate 1 c.requires) clocks changes

pub overflow_mul-result-then-beyond-ge1-2 : goal.overflow_mul-result-then-beyond-ge1-2
overflow_mul-result-then-beyond-ge1-2 c =
    let a = c.args in
    let skew : held a.skew ≡ a.skew = to_z-of_z w32 a.skew c.ranges.skew in
    let beyond : held (held c.from-clocks.result -ℤ held (pos 3 *ℤ held c.from.result)) ≡ pos a.n -ℤ pos (3 * a.m) = omega (arith, ints) in
    product_fits 8000 32 _ _ _ _ (lit< tt) (room_small a.n a.m a.skew a.error a.rate 1 c.requires (omega (arith, ints))) skew beyond

-- the products are those of the definition
pub returns-then-beyond-ge1 : goal.returns-then-beyond-ge1
returns-then-beyond-ge1 c =
    let a = c.args in
    let clocks : held (pos 2 *ℤ held c.from-clocks.result) ≡ pos (2 * a.n) = omega (arith, ints) in
    let changes : held (held a.error +ℤ held a.rate) ≡ a.error +ℤ a.rate = omega (arith, ints) in
    let skew : held a.skew ≡ a.skew = to_z-of_z w32 a.skew c.ranges.skew in
    let beyond : held (held c.from-clocks.result -ℤ held (pos 3 *ℤ held c.from.result)) ≡ pos a.n -ℤ pos (3 * a.m) = omega (arith, ints) in
    let enough : 3 * a.m + 1 ≤ a.n = omega (arith, ints) in
    room_decides a.n a.m a.skew a.error a.rate _ _ enough
    (product_held 64 16000 _ _ _ _ (lit< tt) (needed_small a.n a.m a.skew a.error a.rate 1 c.requires) clocks changes)
    (product_held 8000 32 _ _ _ _ (lit< tt) (room_small a.n a.m a.skew a.error a.rate 1 c.requires enough) skew beyond)

pub returns-else-beyond-ge1 : goal.returns-else-beyond-ge1
returns-else-beyond-ge1 c = grind (arith, common_steps)
