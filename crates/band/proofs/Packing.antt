-- A letter packed into 49 bytes: how the bytes come together, and that the letter is read back. Assumes nothing.
use Rattle.std.proofs.Common.{◌≡◌, ℕ, ◌+◌, ◌-◌, ◌^◌, ◌<◌, ◌≤◌, min, List, ◌∷◌, ◌++◌, length, take, drop, set, replicate, sym, refl, ap, ◌∙◌, arith}
use borrow.Rule.Slice.PartMut.{put_mid}
use Rattle.std.proofs.lemmas.List.{append_assoc, length-append, length-replicate, take_at, drop_at, drop-drop, drop-append-le, drop-replicate}
use Rattle.sets.specs.Bytes.{in_bytes, value}
use Rattle.sets.proofs.Bytes.{read_back}
use Rattle.post.specs.Queues.{Letter}
use Rattle.post.specs.declared.LetterSets.{LetterSets}
use Rattle.band.specs.Banded.{padded, packed, unpacked}

-- the four sets, one behind the other
abbrev four : LetterSets → List ℕ
four s = in_bytes 8 s.plus ++ (in_bytes 8 s.minus ++ (in_bytes 8 s.secrecy ++ in_bytes 8 s.integrity))

-- the parts as the code writes them, the body last
pub together : (s : LetterSets) (n : ℕ) (t p m a i u : List ℕ) → n ≡ length t → p ≡ in_bytes 8 s.plus → m ≡ in_bytes 8 s.minus → a ≡ in_bytes 8 s.secrecy → i ≡ in_bytes 8 s.integrity → u ≡ t
    → length t ≤ 16
    → put_mid 1 (1 + length t - 1) (put_mid 41 8 (put_mid 33 8 (put_mid 25 8 (put_mid 17 8 (set (replicate 49 0) 0 n) p) m) a) i) u ≡ packed (record { sets = s; body = t })
together s n t p m a i u en ep em ea ei eu h = rw (en, ep, em, ea, ei, eu) (ap (λ l. length t ∷ l) rest)
  where
    whole : 1 + length t - 1 ≡ length t
    whole = omega arith

    rest : t ++ drop (1 + length t - 1) (replicate 16 0 ++ four s) ≡ padded t ++ four s
    rest =
        ap (λ k. t ++ drop k (replicate 16 0 ++ four s)) whole
        ∙ ap (λ l. t ++ l) (drop-append-le (length t) (replicate 16 0) (four s) h ∙ ap (λ l. l ++ four s) (drop-replicate (length t) 16 0))
        ∙ sym (append_assoc t (replicate (16 - length t) 0) (four s))

-- the letter is read back
module _ (l : Letter) (short : length l.body ≤ 16) where
  sixteen : length (padded l.body) ≡ 16
  sixteen = length-append l.body (replicate (16 - length l.body) 0) ∙ omega (arith, length-replicate {A = ℕ} (16 - length l.body) 0)

  -- what lies behind the body
  behind : (n : ℕ) → drop (17 + n) (packed l) ≡ drop n (four l.sets)
  behind n = sym (drop-drop n 17 (packed l)) ∙ ap (drop n) (drop_at (padded l.body) (four l.sets) 16 sixteen)

  body : (unpacked (packed l)).body ≡ l.body
  body =
      let e : min (length l.body) 16 ≡ length l.body = omega arith in
      ap (λ k. take k (padded l.body ++ four l.sets)) e
      ∙ ap (take (length l.body)) (append_assoc l.body (replicate (16 - length l.body) 0) (four l.sets))
      ∙ take_at l.body (replicate (16 - length l.body) 0 ++ four l.sets) (length l.body) refl

  pub unpacked-packed : l.sets.plus < 2 ^ 64 → l.sets.minus < 2 ^ 64 → l.sets.secrecy < 2 ^ 64 → l.sets.integrity < 2 ^ 64 → unpacked (packed l) ≡ l
  unpacked-packed hp hm ha hi = λ t. record {
    sets = record {
      plus = (ap (λ b. value (take 8 b)) (behind 0) ∙ read_back 8 l.sets.plus hp) t;
      minus = (ap (λ b. value (take 8 b)) (behind 8) ∙ read_back 8 l.sets.minus hm) t;
      secrecy = (ap (λ b. value (take 8 b)) (behind 16) ∙ read_back 8 l.sets.secrecy ha) t;
      integrity = (ap (λ b. value (take 8 b)) (behind 24) ∙ read_back 8 l.sets.integrity hi) t;
    };
    body = body t;
  }
