-- What a sink is told of a stream, or of a front of it, is one list of calls.
use Rattle.std.proofs.Common.{◌≡◌, ℕ, ◌+◌, ◌-◌, ◌*◌, ◌<◌, ◌≤◌, List, [], ◌∷◌, length, ℤ, refl, ap, sym, ◌∙◌, subst, arith, ⊎_elim, Some, ◌≡◌, ℕ, ◌*◌, arith}
use Rattle.std.proofs.lemmas.Bool.{cases_lt}
use Rattle.h264_verify.specs.Units.{extent_at}
use Rattle.h264_base.specs.declared.mode.Target.{Target}
use Rattle.h264_verify.specs.declared.state.Depth.TheVariants as depths
use Rattle.h264_base.specs.Call.{Call, OfFrame, Call}
use Rattle.h264_plane.specs.declared.frame.Component.{Component}
use Rattle.h264_plane.specs.declared.frame.Component.TheVariants.{Y, Cb, Cr}
use Rattle.h264_plane.specs.declared.frame.Frame.{Frame}
use Rattle.h264_plane.specs.Frames.{IsFrame, plane_of}
use Rattle.h264_plane.specs.Places.{side}
use Rattle.h264_plane.specs.Samples.{at}
use Rattle.h264_plane.specs.Rows.{picture_bytes}
use Rattle.h264_plane.proofs.Rows.{bytes_same}
use Rattle.h264_dpb.specs.Shown.{width_in, height_in, cropped, frame_call}
use Rattle.h264_dpb.specs.Kept.{shown_call}
use Rattle.h264_dpb.specs.declared.entry.Rectangle.{Rectangle}
use Rattle.h264_verify.specs.Telling.{Told, Said, Decodes, Shows, calls_of, AreOf, Told, Said, Decodes, Shows, calls_of, AreDecoded, AreOf}
use Rattle.h264_verify.specs.Pictures.{CodedPicture, CodedPicture}
use Rattle.h264_verify.specs.Family.{AreSameOn, IsFrontOf}
use Rattle.std.proofs.Common.{append_assoc, ⊎_elim, List, [], ◌∷◌, ◌++◌, length, ◌⊎◌, inl, inr, Some, Result, refl, ap, sym, ◌∙◌, subst}
use Rattle.h264_base.specs.declared.stop.Stop.{Stop}
use Rattle.h264_base.specs.declared.summary.Summary.{Summary}
use Rattle.h264_verify.specs.Course.{told}
use Rattle.h264_verify.specs.History.{History}
use Rattle.h264_verify.specs.Verdict.{AreLegal, Verdict}
use Rattle.h264_verify.proofs.samples.FamiliesAgree.{decoded-first, calls-both}
use Rattle.h264_verify.proofs.laws.OneVerdict.{one-verdict}
use Rattle.h264_verify.proofs.laws.ToldInOrder.{HaveFrames, ToSome, ended_at, in-frames, in-of, front-in, verdict-in, legal-in}
use Rattle.h264_verify.proofs.samples.NamedSizes.{AreRead}
use Rattle.h264_verify.proofs.laws.OneFamily.{told-family, read-ends}

-- ---- a frame

-- two frames of one size with the same samples are shown alike
call-same : (width height : ℕ) (f g : Frame) → IsFrame f (16 * width) (16 * height) → IsFrame g (16 * width) (16 * height) →
    ((c : Component) (x y : ℕ) → x < side c * width → y < side c * height → at (plane_of c f) x y ≡ at (plane_of c g) x y) →
    (count : ℤ) (r : Rectangle) → frame_call count f r ≡ frame_call count g r
call-same width height f g i j same count r =
    let wide : width_in r f ≡ 16 * width - 2 * (r.left + r.right) = ap (λ n. n - 2 * (r.left + r.right)) i.y.columns in
    let tall : height_in r f ≡ 16 * height - 2 * (r.top + r.bottom) = ap (λ n. n - 2 * (r.top + r.bottom)) i.y.rows in
    let across : width_in r g ≡ width_in r f = ap (λ n. n - 2 * (r.left + r.right)) (j.y.columns ∙ sym i.y.columns) in
    let down : height_in r g ≡ height_in r f = ap (λ n. n - 2 * (r.top + r.bottom)) (j.y.rows ∙ sym i.y.rows) in
    let bytes : picture_bytes (width_in r f) (height_in r f) (cropped r f) ≡ picture_bytes (width_in r f) (height_in r f) (cropped r g) =
    bytes_same (width_in r f) (height_in r f) (cropped r f) (cropped r g)
    (λ x y k l. same Y (2 * r.left + x) (2 * r.top + y) (omega (arith, k, wide)) (omega (arith, l, tall)))
    (λ x y k l. same Cb (r.left + x) (r.top + y) (omega (arith, k, wide)) (omega (arith, l, tall)))
    (λ x y k l. same Cr (r.left + x) (r.top + y) (omega (arith, k, wide)) (omega (arith, l, tall))) in
    ap (λ (l : List ℕ). OfFrame count (width_in r f) (height_in r f) l) bytes
    ∙ ap (λ (n : ℕ). OfFrame count n (height_in r f) (picture_bytes n (height_in r f) (cropped r g))) (sym across)
    ∙ ap (λ (n : ℕ). OfFrame count (width_in r g) n (picture_bytes (width_in r g) n (cropped r g))) (sym down)

module _ (frames others : ℕ → Frame) where
  -- each of the first pictures is shown alike
  abbrev pub ShownAlike : ℕ → Type 0
  ShownAlike n = (k : ℕ) → k < n → (count : ℤ) (r : Rectangle) → frame_call count (frames k) r ≡ frame_call count (others k) r

  pub shown-alike : (pictures : List CodedPicture) → AreSameOn frames others pictures → HaveFrames (Some frames) pictures → HaveFrames (Some others) pictures →
      ShownAlike (length pictures)
  shown-alike [] s h k n l count r = absurd (omega (arith, l))
  shown-alike (p ∷ ps) s h k n l count r = ⊎_elim
      (λ (q : n < length ps). shown-alike ps s.1 h.1 k.1 n q count r)
      (λ (q : length ps ≤ n).
      let e : n ≡ length ps = omega (arith, q, l) in
      subst (λ i. frame_call count (frames i) r ≡ frame_call count (others i) r) (sym e)
      (call-same p.first.sps.frame_size.width p.first.sps.frame_size.height (frames (length ps)) (others (length ps)) h.0.size k.0.size s.0 count r))
      (cases_lt n (length ps))

  pub calls-same : (n : ℕ) (told : List Told) → ShownAlike n → AreOf n told → calls_of (Some frames) told ≡ calls_of (Some others) told
  calls-same n [] a h = refl
  calls-same n (Said call ∷ told) a h = ap (λ (l : List Call). call ∷ l) (calls-same n told a h.1)
  calls-same n (Decodes ps ∷ told) a h = calls-same n told a h.1
  calls-same n (Shows e ∷ told) a h =
      ap (λ (c : Call). c ∷ calls_of (Some frames) told) (a e.of.picture h.0 e.count e.of.rectangle)
      ∙ ap (λ (l : List Call). shown_call others e ∷ l) (calls-same n told a h.1)

  -- what is told in order is the same calls with both
  pub told-output : (told : List Told) → ToSome AreRead [] told → AreDecoded (Some frames) told → AreDecoded (Some others) told →
      calls_of (Some frames) told ≡ calls_of (Some others) told
  told-output told t d e =
      let one = in-frames AreRead (Some frames) told [] t.0 t.1 tt d in
      let other = in-frames AreRead (Some others) told [] t.0 t.1 tt e in
      calls-same (length t.0) told (shown-alike t.0 (told-family frames others told t.0 t.1 d e) one other) (in-of AreRead told [] t.0 t.1)

  -- all that is told of a stream up to its verdict
  pub verdict-output : (target : Target) (bytes : List ℕ) (told : List Told) (answer : Result Summary Stop) →
      Verdict (extent_at depths.Full target) bytes told answer → AreDecoded (Some frames) told → AreDecoded (Some others) told →
      calls_of (Some frames) told ≡ calls_of (Some others) told
  verdict-output target bytes told answer h =
      told-output told (verdict-in AreRead (extent_at depths.Full target) (read-ends target) bytes told answer h)

  -- a front of it
  pub front-output : (target : Target) (bytes : List ℕ) (told rest : List Told) (answer : Result Summary Stop) →
      Verdict (extent_at depths.Full target) bytes (told ++ rest) answer → AreDecoded (Some frames) told → AreDecoded (Some others) told →
      calls_of (Some frames) told ≡ calls_of (Some others) told
  front-output target bytes told rest answer h =
      told-output told (front-in AreRead told rest (verdict-in AreRead (extent_at depths.Full target) (read-ends target) bytes (told ++ rest) answer h))

  -- what legal units tell
  pub legal-output : (target : Target) (before : History) (told : List Told) → AreLegal (extent_at depths.Full target) before told →
      AreDecoded (Some frames) told → AreDecoded (Some others) told → calls_of (Some frames) told ≡ calls_of (Some others) told
  legal-output target before told l =
      told-output told (ended_at depths.Full before, legal-in AreRead (extent_at depths.Full target) (read-ends target) before told l)

-- ---- fronts

-- a front of two lists in turn is one of the first, or has all of that and a front of the second
pub front-of : (told rest xs ys : List Told) → told ++ rest ≡ xs ++ ys → ((more : List Told) × (xs ≡ told ++ more)) ⊎
    ((part : List Told) × (told ≡ xs ++ part) × (ys ≡ part ++ rest))
front-of [] rest xs ys e = inl (xs, refl)
front-of (t ∷ told) rest [] ys e = inr (t ∷ told, refl, sym e)
front-of (t ∷ told) rest (x ∷ xs) ys e =
    let head : t ≡ x = cc in
    let tail : told ++ rest ≡ xs ++ ys = cc in
    by head (front-of told rest xs ys tail)
  where
    by : t ≡ x → ((more : List Told) × (xs ≡ told ++ more)) ⊎ ((part : List Told) × (told ≡ xs ++ part) × (ys ≡ part ++ rest)) →
        ((more : List Told) × (x ∷ xs ≡ (t ∷ told) ++ more)) ⊎ ((part : List Told) × (t ∷ told ≡ (x ∷ xs) ++ part) × (ys ≡ part ++ rest))
    by head (inl m) = inl (m.0, ap (λ (y : Told). y ∷ xs) (sym head) ∙ ap (λ (l : List Told). t ∷ l) m.1)
    by head (inr m) = inr (m.0, ap (λ (y : Told). y ∷ told) head ∙ ap (λ (l : List Told). x ∷ l) m.1, m.2)

-- the longer of two fronts begins with the shorter
longer : (frames others : ℕ → Frame) (target : Target) (bytes : List ℕ) (told other part more : List Told) (answer : Result Summary Stop) → other ≡ told ++
    part → Verdict (extent_at depths.Full target) bytes (other ++ more) answer → AreDecoded (Some frames) told → AreDecoded (Some others) other →
    (rest : List Call) ×
    (calls_of (Some others) other ≡ calls_of (Some frames) told ++ rest)
longer frames others target bytes told other part more answer e v d d' =
    let first = decoded-first (Some others) told part (subst (AreDecoded (Some others)) e d') in
    let front = subst (λ (l : List Told). Verdict (extent_at depths.Full target) bytes l answer)
    (ap (λ (l : List Told). l ++ more) e ∙ append_assoc told part more) v in
    let same = front-output frames others target bytes told (part ++ more) answer front d first in (
      calls_of (Some others) part,
      ap (λ (l : List Told). calls_of (Some others) l) e ∙ calls-both (Some others) told part ∙
          ap (λ (l : List Call). l ++ calls_of (Some others) part) (sym same),
    )

-- two fronts, with two families: one begins with the other
pub fronts-output : (target : Target) (bytes : List ℕ) (told rest other more : List Told) (answer another : Result Summary Stop) →
    Verdict (extent_at depths.Full target) bytes (told ++ rest) answer → Verdict (extent_at depths.Full target) bytes (other ++ more) another →
    (frames others : ℕ → Frame) → AreDecoded (Some frames) told → AreDecoded (Some others) other →
    IsFrontOf (calls_of (Some frames) told) (calls_of (Some others) other) ⊎
    IsFrontOf (calls_of (Some others) other) (calls_of (Some frames) told)
fronts-output target bytes told rest other more answer another v w frames others d d' = ⊎_elim
    (λ (m : (extra : List Told) × (other ≡ told ++ extra)). let l = longer frames others target bytes told other m.0 more another m.1 w d d' in
    inl (record { rest = l.0; whole = l.1 }))
    (λ (m : (part : List Told) × (told ≡ other ++ part) × (more ≡ part ++ rest)). let l =
    longer others frames target bytes other told m.0 rest answer m.1 v d' d in inr (record { rest = l.0; whole = l.1 }))
    (front-of told rest other more (one-verdict (extent_at depths.Full target) bytes (told ++ rest) (other ++ more) answer another v w).0)
