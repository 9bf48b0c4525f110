-- Every place is there.
use Rattle.std.proofs.Common.{ℕ, ◌+◌, ◌*◌, ◌%◌, ◌^◌, ◌<◌, ◌≤◌, add-mul, arith}
use Rattle.std.proofs.lemmas.Nat.{mod_below, mul-le, div_below}
use Rattle.diagram.specs.Spread.{hash, spread}

pub spread_below : (many x y z : ℕ) → 0 < many → spread many x y z < many
unfolding spread hash
spread_below many x y z some =
    let m : ℕ = (((((x * 2654435769) % 2 ^ 32 + y) % 2 ^ 32 * 2246822519) % 2 ^ 32 + z) % 2 ^ 32 * 3266489917) in
    let h : m % 2 ^ 32 + 1 ≤ 2 ^ 32 = omega (arith, mod_below m (2 ^ 32) (omega arith)) in
    let le = mul-le (m % 2 ^ 32 + 1) many (2 ^ 32) many h (omega arith) in
    let e = add-mul (m % 2 ^ 32) 1 many in
    div_below (m % 2 ^ 32 * many) (2 ^ 32) many (omega arith) (omega arith)
