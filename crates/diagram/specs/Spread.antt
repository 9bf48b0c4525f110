-- How three words are spread over places.
use Rattle.std.specs.Prelude.{ℕ, ◌+◌, ◌*◌, ◌/◌, ◌%◌, ◌^◌}

-- three words mixed into one, by multiplications modulo 2^32
unfoldable pub hash : ℕ → ℕ → ℕ → ℕ
hash x y z = (((((x * 2654435769) % 2 ^ 32 + y) % 2 ^ 32 * 2246822519) % 2 ^ 32 + z) % 2 ^ 32 * 3266489917) % 2 ^ 32

-- one of so many places
unfoldable pub spread : ℕ → ℕ → ℕ → ℕ → ℕ
spread many x y z = hash x y z * many / 2 ^ 32
