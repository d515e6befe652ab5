-- The band: a letter in 49 bytes, and 1,024 places of 49 bytes. Assumes nothing.
use Rattle.std.specs.Prelude.{ℕ, ◌+◌, ◌-◌, ◌*◌, min, List, ◌∷◌, ◌++◌, length, take, drop, replicate, slice_index}
use Rattle.sets.specs.Bytes.{in_bytes, value}
use Rattle.post.specs.Queues.{Letter}

-- the body in sixteen bytes
abbrev pub padded : List ℕ → List ℕ
padded body = body ++ replicate (16 - length body) 0

-- a letter in 49 bytes
abbrev pub packed : Letter → List ℕ
packed l =
    length l.body ∷ (padded l.body
    ++ (in_bytes 8 l.sets.plus ++ (in_bytes 8 l.sets.minus ++ (in_bytes 8 l.sets.secrecy ++ in_bytes 8 l.sets.integrity))))

-- the letter that 49 bytes make
abbrev pub unpacked : List ℕ → Letter
unpacked b = record {
  sets = record {
    plus = value (take 8 (drop 17 b));
    minus = value (take 8 (drop 25 b));
    secrecy = value (take 8 (drop 33 b));
    integrity = value (take 8 (drop 41 b));
  };
  body = take (min (slice_index b 0) 16) (drop 1 b);
}

-- the bytes of place k
abbrev pub cell : List ℕ → ℕ → List ℕ
cell bytes k = take 49 (drop (k * 49) bytes)

-- with x written to place k
abbrev pub stored : List ℕ → ℕ → List ℕ → List ℕ
stored bytes k x = take (k * 49) bytes ++ (x ++ drop (k * 49 + 49) bytes)

-- the letter in each place
abbrev pub banded : List ℕ → ℕ → Letter
banded bytes k = unpacked (cell bytes k)
