-- The units of an input with a fault after them are those of its longest part that is a byte stream.
use Rattle.std.proofs.Common.{◌≡◌, ℕ, suc, ◌+◌, ◌<◌, ◌≤◌, List, [], ◌∷◌, ◌++◌, length, replicate, take, drop, refl, ap, sym, ◌∙◌, subst, arith, append_assoc}
use Rattle.std.proofs.Common.{length-append}
use Rattle.std.specs.List.{All}
use Rattle.std.proofs.lemmas.List.{length-replicate, take_at, take-append-le, take-append-drop}
use Rattle.h264_units.specs.Stream.{unit_limit, input_limit, NalUnit, EndsUnit, IsInner, IsBody, started, First, past, IsByteStream, Tail, Zeros, Stray, Bare}
use Rattle.h264_units.specs.Stream.{Long, Cut, IsStray, IsBare, Splits, IsLongest, IsFault}
use Rattle.h264_units.proofs.Streams.{inner-more, code-zeros, started-append, length-started, same-start, unit-same, first-length, zeros-before, code-alone}
use Rattle.h264_units.proofs.Streams.{code-not-stray}

-- what ends a unit ends it if some of its last bytes are missing
ends-front : (a b : List ℕ) → EndsUnit (a ++ b) → EndsUnit a
ends-front [] b p = tt
ends-front (x ∷ []) [] p = p
ends-front (x ∷ []) (y ∷ []) p = p.0
ends-front (x ∷ []) (y ∷ z ∷ b) p = p.0
ends-front (x ∷ y ∷ []) [] p = p
ends-front (x ∷ y ∷ []) (z ∷ b) p = (p.0, p.1)
ends-front (x ∷ y ∷ z ∷ a) b p = p

begins : (a x y l : List ℕ) → a ++ x ≡ y ++ l → length a ≤ length y → y ≡ a ++ drop (length a) y
begins a x y l e h =
    sym (take-append-drop (length a) y)
    ∙ ap (λ t. t ++ drop (length a) y) (sym (take-append-le (length a) y l h) ∙ ap (take (length a)) (sym e) ∙ take_at a x (length a) refl)

record SameBody (a b x y l : List ℕ) : Type 0 where
  pub body_is : a ≡ b
  pub rest_is : x ≡ y ++ l

-- a body ends at one place, also where the last bytes are missing
same-body : (a b x y l : List ℕ) → IsInner a → IsInner b → EndsUnit x → EndsUnit y → a ++ x ≡ (b ++ y) ++ l → length a < length b + length y →
    SameBody a b x y l
same-body [] [] x y l p q ex ey e h = record { body_is = refl; rest_is = e }
same-body [] (d ∷ b) x y l p q ex ey e h = absurd (inner-more d b (y ++ l) q.0 (subst EndsUnit (e ∙ append_assoc (d ∷ b) y l) ex))
same-body (c ∷ a) [] x y l p q ex ey e h = absurd (inner-more c a (drop (length (c ∷ a)) y) p.0 (subst EndsUnit (begins (c ∷ a) x y l e (omega arith)) ey))
same-body (c ∷ a) (d ∷ b) x y l p q ex ey e h =
    let tails : a ++ x ≡ (b ++ y) ++ l = cc in
    let heads : c ≡ d = cc in
    let r = same-body a b x y l p.1 q.1 ex ey tails (omega arith) in
    record { body_is = cc (heads, r.body_is); rest_is = r.rest_is }

-- the start code and the bytes after it, where a longer part is a byte stream
record Begun (at : ℕ) (m : ℕ) (x : List ℕ) (left : List ℕ) (longer : List ℕ) : Type 0 where
  pub unit : NalUnit
  pub units : List NalUnit
  pub rest : List ℕ
  pub stream : IsByteStream (past unit) rest units
  pub body : IsBody unit.body
  pub ends : EndsUnit rest
  pub from : unit.from ≡ at + m + 3
  pub whole : x ≡ (unit.body ++ rest) ++ left
  pub long : length longer ≡ m + 3 + (length unit.body + length rest)

begun : (at m : ℕ) (x bytes longer left : List ℕ) (others : List NalUnit) → bytes ≡ started m x → bytes ≡ longer ++ left → m + 2 < length longer →
    IsByteStream at longer others → Begun at m x left longer
begun at m x bytes longer left [] e w h s =
    let k = code-alone m s.0 x left (sym e ∙ w ∙ ap (λ l. l ++ left) s.1) in
    let n : length longer ≡ s.0 = ap length s.1 ∙ length-replicate s.0 0 in
    absurd (omega arith)
begun at m x bytes longer left (v ∷ vs) e w h s =
    let f = s.1 in
    let t = same-start m f.zeros x ((v.body ++ s.0) ++ left) (sym e ∙ w ∙ ap (λ l. l ++ left) f.whole ∙ started-append f.zeros (v.body ++ s.0) left) in
    record {
      unit = v;
      units = vs;
      rest = s.0;
      stream = s.2;
      body = f.body;
      ends = f.ends;
      from = f.from ∙ ap (λ k. at + k + 3) (sym t.count_is);
      whole = t.rest_is;
      long = ap length f.whole ∙ length-started f.zeros (v.body ++ s.0) ∙ ap (λ k. f.zeros + 3 + k) (length-append v.body s.0) ∙
          ap (λ k. k + 3 + (length v.body + length s.0)) (sym t.count_is);
    }

stray-longest : (at : ℕ) (bytes : List ℕ) (p : ℕ) → IsStray at bytes p → IsLongest at bytes []
stray-longest at bytes p s = record { front = replicate s.zeros 0; rest = s.byte ∷ s.rest; whole = s.whole; stream = (s.zeros, refl); longest = longest }
  where
    longest : (longer left : List ℕ) (others : List NalUnit) → bytes ≡ longer ++ left → length {A = ℕ} (replicate s.zeros 0) < length longer →
        IsByteStream at longer others → ⊥
    longest longer left [] w h z =
        let k = zeros-before s.zeros z.0 s.byte s.rest left s.other (sym s.whole ∙ w ∙ ap (λ l. l ++ left) z.1) in
        let n : length longer ≡ z.0 = ap length z.1 ∙ length-replicate z.0 0 in
        let m : length {A = ℕ} (replicate s.zeros 0) ≡ s.zeros = length-replicate s.zeros 0 in
        omega arith
    longest longer left (v ∷ vs) w h z = let f = z.1 in
        code-not-stray at f.zeros ((v.body ++ z.0) ++ left) bytes p (w ∙ ap (λ l. l ++ left) f.whole ∙ started-append f.zeros (v.body ++ z.0) left) s

bare-longest : (at : ℕ) (bytes : List ℕ) (p : ℕ) → IsBare at bytes p → IsLongest at bytes []
bare-longest at bytes p s = record {
  front = replicate (s.zeros + 2) 0;
  rest = 1 ∷ s.rest;
  whole = s.whole ∙ code-zeros s.zeros s.rest;
  stream = (s.zeros + 2, refl);
  longest = longest;
}
  where
    no-body : (b rest left : List ℕ) → IsBody b → s.rest ≡ (b ++ rest) ++ left → ⊥
    no-body [] rest left p e = absurd (omega (arith, p.0))
    no-body (c ∷ b) rest left p e = inner-more c b (rest ++ left) p.1.0 (subst EndsUnit (e ∙ append_assoc (c ∷ b) rest left) s.ends)

    longest : (longer left : List ℕ) (others : List NalUnit) → bytes ≡ longer ++ left → length {A = ℕ} (replicate (s.zeros + 2) 0) < length longer →
        IsByteStream at longer others → ⊥
    longest longer left others w h z =
        let m : length {A = ℕ} (replicate (s.zeros + 2) 0) ≡ s.zeros + 2 = length-replicate (s.zeros + 2) 0 in
        let b = begun at s.zeros s.rest bytes longer left others s.whole w (omega arith) z in
        no-body b.unit.body b.rest left b.body b.whole

unit-longest : (at : ℕ) (bytes : List ℕ) (u : NalUnit) (rest : List ℕ) (units : List NalUnit) → First at bytes u rest → IsLongest (past u) rest units →
    IsLongest at bytes (u ∷ units)
unit-longest at bytes u rest units f t = record {
  front = front;
  rest = t.rest;
  whole = f.whole ∙ ap (λ l. started f.zeros (u.body ++ l)) t.whole ∙ ap (started f.zeros) (sym (append_assoc u.body t.front t.rest)) ∙
      sym (started-append f.zeros (u.body ++ t.front) t.rest);
  stream = (
    t.front,
    record { zeros = f.zeros; whole = refl; body = f.body; ends = ends-front t.front t.rest (subst EndsUnit t.whole f.ends); from = f.from },
    t.stream,
  );
  longest = longest;
}
  where
    front : List ℕ
    front = started f.zeros (u.body ++ t.front)

    longest : (longer left : List ℕ) (others : List NalUnit) → bytes ≡ longer ++ left → length front < length longer → IsByteStream at longer others → ⊥
    longest longer left others w h z =
        let n : length front ≡ f.zeros + 3 + length (u.body ++ t.front) = length-started f.zeros (u.body ++ t.front) in
        let m : length (u.body ++ t.front) ≡ length u.body + length t.front = length-append u.body t.front in
        let b = begun at f.zeros (u.body ++ rest) bytes longer left others f.whole w (omega arith) z in
        let k : length longer ≡ f.zeros + 3 + (length b.unit.body + length b.rest) = b.long in
        let s = same-body u.body b.unit.body rest b.rest left f.body.1 b.body.1 f.ends b.ends b.whole (omega arith) in
        let l : length u.body ≡ length b.unit.body = ap length s.body_is in
        let same : u ≡ b.unit = unit-same u b.unit (f.from ∙ sym b.from) s.body_is in
        t.longest b.rest left b.units s.rest_is (omega arith) (subst (λ v. IsByteStream (past v) b.rest b.units) (sym same) b.stream)

pub is-longest : (at : ℕ) (bytes : List ℕ) (units : List NalUnit) (tail : Tail) → Splits at bytes units tail → IsFault tail → IsLongest at bytes units
is-longest at bytes [] Zeros s f = absurd f
is-longest at bytes [] (Stray p) s f = stray-longest at bytes p s
is-longest at bytes [] (Bare p) s f = bare-longest at bytes p s
is-longest at bytes [] (Long p) s f = absurd f
is-longest at bytes [] Cut s f = absurd f
is-longest at bytes (u ∷ units) tail s f = unit-longest at bytes u s.0 units s.1.first (is-longest (past u) s.0 units tail s.2 f)

-- zeros to the end: all of it is a byte stream
pub is-stream : (at : ℕ) (bytes : List ℕ) (units : List NalUnit) → Splits at bytes units Zeros → IsByteStream at bytes units
is-stream at bytes [] s = (s.0, s.1)
is-stream at bytes (u ∷ units) s = (s.0, s.1.first, is-stream (past u) s.0 units s.2)

-- a byte stream within the limits is judged whole
pub judged-stream : (at : ℕ) (bytes : List ℕ) (units : List NalUnit) → IsByteStream at bytes units →
    All (λ (unit : NalUnit). length unit.body ≤ unit_limit) units → at + length bytes ≤ input_limit → Splits at bytes units Zeros
judged-stream at bytes [] s a h =
    let n : length bytes ≡ s.0 = ap length s.1 ∙ length-replicate s.0 0 in
    (s.0, s.1, omega arith)
judged-stream at bytes (u ∷ units) s a h =
    let n = first-length at bytes u s.0 s.1 in
    let fits : length u.body ≤ unit_limit = a 0 u (omega arith) in
    (s.0, record { first = s.1; fits = fits; shown = omega arith }, judged-stream (past u) s.0 units s.2 (λ k d lt. a (suc k) d (omega arith)) (omega arith))
