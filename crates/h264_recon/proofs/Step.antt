-- One macroblock further: what is constructed from the stores is u, and the stores hold u.
use Rattle.std.proofs.Common.{◌≡◌, inl, inr, ⊎_elim, ℕ, ◌+◌, ◌-◌, ◌*◌, ◌<◌, ◌≤◌, List, slice_index, vec_len, arith, refl, sym, ap, ◌∙◌}
use Rattle.std.proofs.lemmas.Bool.{cases_lt}
use Rattle.std.proofs.lemmas.Nat.{mul-le}
use Rattle.std.specs.Global.{Vec}
use Rattle.h264_plane.specs.Samples.{at, with_block}
use Rattle.h264_plane.specs.Frames.{plane_of, IsWritten}
use Rattle.h264_plane.specs.declared.frame.Component.{Component}
use Rattle.h264_plane.specs.declared.frame.Component.TheVariants.{Y, Cb, Cr}
use Rattle.h264_plane.specs.declared.frame.Frame.{Frame}
use Rattle.h264_plane.specs.Places.{side, Agree}
use Rattle.h264_recon.specs.Inter.{Setting, position_at}
use Rattle.h264_recon.specs.Constructed.{window, made, IsMade, IsWithin, IsPossible, Coded}
use Rattle.h264_recon.specs.Around.{SidesAgree}
use Rattle.h264_recon.specs.Lines.{local, IsMadeFrom, AreMadeFrom, IsSaved, Stored, samples_of, store_of, AreStored, right_column, with_left}
use Rattle.h264_recon.specs.Step.{ArePlaced, AreSaved, HasMacroblock, joined}
use Rattle.h264_recon.specs.declared.macroblock.Available.{Available}
use Rattle.h264_recon.specs.declared.store.Store.{Store}
use Rattle.h264_recon.specs.declared.store.Lines.{Lines}
use Rattle.h264_recon.specs.declared.store.Samples.{Samples}
use Rattle.h264_plane.proofs.Own.{moved, own_in, own_out, block_in, block_shows}
use Rattle.h264_recon.proofs.Tables.{table-at}
use Rattle.h264_recon.proofs.Local.{local_left, local_above, local_corner, local_own}
use Rattle.h264_recon.proofs.Unique.{made_by_same, IsMadeIn, own_unique, made_in}
use Rattle.h264_plane.proofs.Raster.{side_least}

-- ---- the stores

-- the sides that are available are those of u
pub sides_are : (n w c r : ℕ) (u : ℕ → ℕ → ℕ) (a : Available) (l : Store) (own : List ℕ) → 4 ≤ n → c < w → IsWithin a w c r → Stored n w c r u l →
    SidesAgree n a (local n l c own) (window n u c r)
sides_are n w c r u a l own f k within held =
    let inside = mul-le n (c + 1) n w (omega arith) (omega arith) in
    record {
      left = λ t q d. local_left n l c own q ∙ held.left (within.left t) q d ∙
          moved u (n * c - 1) (n * r + q) (n * c + 0 - 1) (n * r + (q + 1) - 1) (omega arith) (omega arith);
      above = λ t q d. local_above n l c own q ∙ held.above (within.above t) (n * c + q) (omega arith) (omega arith)
          ∙ moved u (n * c + q) (n * r - 1) (n * c + (q + 1) - 1) (n * r + 0 - 1) (omega arith) (omega arith);
      above_right = λ t q d.
          let more = mul-le n (c + 2) n w (omega arith) (omega (arith, (within.above_right t).1)) in
          local_above n l c own (n + q) ∙ held.above ((within.above_right t).0) (n * c + (n + q)) (omega arith) (omega arith)
          ∙ moved u (n * c + (n + q)) (n * r - 1) (n * c + (n + q + 1) - 1) (n * r + 0 - 1) (omega arith) (omega arith);
      corner = λ t. local_corner n l c own ∙ held.corner ((within.corner t).0) ((within.corner t).1) ∙
          moved u (n * c - 1) (n * r - 1) (n * c + 0 - 1) (n * r + 0 - 1) (omega arith) (omega arith);
    }

made_local : (k : Setting) (c r : ℕ) (m : Coded) (p : Component) (l : Store) (own : List ℕ) → IsMadeFrom k (position_at c r) m p l own →
    IsMadeIn k c r m p (local (side p) l c own)
made_local k c r m p l own made = record { each = λ x y i j. local_own (side p) l c own x y ∙ made.each x y i j }

-- what is constructed from the stores is u
pub own_is : (k : Setting) (c r : ℕ) (m : Coded) (p : Component) (u : Component → ℕ → ℕ → ℕ) (l : Store) (own : List ℕ) → c < k.across →
    IsWithin m.available k.across c r →
    IsPossible m.prediction m.available → IsMade k c r m u → Stored (side p) k.across c r (u p) l → IsMadeFrom k (position_at c r) m p l own →
    (x y : ℕ) → x < side p → y < side p → slice_index own (side p * y + x) ≡ u p (side p * c + x) (side p * r + y)
own_is k c r m p u l own inside within ok mu held made x y i j =
    sym (local_own (side p) l c own x y)
    ∙ own_unique k c r m p (local (side p) l c own) (window (side p) (u p) c r) ok
    (sides_are (side p) k.across c r (u p) m.available l own (side_least p) inside within held)
    (made_local k c r m p l own made) (made_in k c r m u p mu) x y i j
    ∙ moved (u p) _ _ (side p * c + x) (side p * r + y) (omega arith) (omega arith)

-- the stores, one macroblock further
pub stored_more : (n w c r : ℕ) (u : ℕ → ℕ → ℕ) (old new : Store) (own : List ℕ) → 4 ≤ n → c < w →
    ((x y : ℕ) → x < n → y < n → slice_index own (n * y + x) ≡ u (n * c + x) (n * r + y)) →
    Stored n w c r u old → IsSaved n c old new own → ((k : ℕ) → k < n → slice_index new.left k ≡ slice_index own (n * k + (n - 1))) → Stored n w (c + 1) r u new
stored_more n w c r u old new own f k is held saved right =
    let inside = mul-le n (c + 1) n w (omega arith) (omega arith) in
    record {
      size = saved.size ∙ held.size;
      above = λ t q a b. saved.after q (omega arith) ∙ held.above t q (omega arith) b;
      bottoms = λ q a. ⊎_elim
          (λ (before : q < n * c). saved.before q before ∙ held.bottoms q before)
          (λ (here : n * c ≤ q).
          let place : q ≡ n * c + (q - n * c) = omega arith in
          ap (λ x. slice_index new.above.items x) place ∙ saved.bottom (q - n * c) (omega arith)
          ∙ is (q - n * c) (n - 1) (omega arith) (omega arith) ∙ moved u _ _ q (n * r + n - 1) (sym place) (omega arith))
          (cases_lt q (n * c));
      left = λ t q a. right q a ∙ is (n - 1) q (omega arith) a ∙ moved u _ _ (n * (c + 1) - 1) (n * r + q) (omega arith) refl;
      corner = λ t t'. saved.corner ∙ held.above t' (n * c + (n - 1)) (omega arith) (omega arith) ∙
          moved u _ _ (n * (c + 1) - 1) (n * r - 1) (omega arith) refl;
    }

-- at the end of a row the next begins
pub stored_wrap : (n w r : ℕ) (u : ℕ → ℕ → ℕ) (l : Store) → Stored n w w r u l → Stored n w 0 (r + 1) u l
stored_wrap n w r u l held = record {
  size = held.size;
  above = λ t q a b. held.bottoms q b ∙ moved u q (n * r + n - 1) q (n * (r + 1) - 1) refl (omega arith);
  bottoms = λ q a. absurd (omega arith);
  left = λ t q a. absurd (omega arith);
  corner = λ t. absurd (omega arith);
}

pub stored_none : (n w : ℕ) (u : ℕ → ℕ → ℕ) (l : Store) → vec_len l.above ≡ n * w → Stored n w 0 0 u l
stored_none n w u l e = record {
  size = e;
  above = λ t. absurd (omega arith);
  bottoms = λ q a. absurd (omega arith);
  left = λ t. absurd (omega arith);
  corner = λ t. absurd (omega arith);
}

-- they hold each samples that agree with u before the macroblock
pub stored_moves : (n w c r : ℕ) (u v : ℕ → ℕ → ℕ) (l : Store) → 4 ≤ n → c < w → Agree n w c r u v → Stored n w c r u l → Stored n w c r v l
stored_moves n w c r u v l f k agree held =
    let inside = mul-le n (c + 1) n w (omega arith) (omega arith) in
    record {
      size = held.size;
      above = λ t q a b.
          let over = mul-le n 1 n r (omega arith) t in
          held.above t q a b ∙ agree.each q (n * r - 1) b (inl (omega arith));
      bottoms = λ q a. held.bottoms q a ∙ agree.each q (n * r + n - 1) (omega arith) (inr (omega arith, a));
      left = λ t q a.
          let there = mul-le n 1 n c (omega arith) t in
          held.left t q a ∙ agree.each (n * c - 1) (n * r + q) (omega arith) (inr (omega arith, omega arith));
      corner = λ t t'.
          let there = mul-le n 1 n c (omega arith) t in
          let over = mul-le n 1 n r (omega arith) t' in
          held.corner t t' ∙ agree.each (n * c - 1) (n * r - 1) (omega arith) (inl (omega arith));
    }

-- ---- the step

pub shows : (k : Setting) (c r : ℕ) (m : Coded) (u : Component → ℕ → ℕ → ℕ) (lines : Lines) (own : Component → List ℕ) (old new : Frame) → c < k.across →
    IsWithin m.available k.across c r →
    IsPossible m.prediction m.available → IsMade k c r m u → AreStored k.across c r u lines →
    ((p : Component) → IsMadeFrom k (position_at c r) m p (store_of p lines) (own p)) →
    ArePlaced c r own old new → HasMacroblock c r u old new
shows k c r m u lines own old new inside within ok mu held made placed = λ p. record {
  width = (placed p).width;
  height = (placed p).height;
  samples = λ x y i j. (placed p).samples x y i j
      ∙ block_shows (side p) c r (own p) (u p) (at (plane_of p old)) (own_is k c r m p u (store_of p lines) (own p) inside within ok mu (held p) (made p)) x y;
}

-- the right column of the samples that are kept
column_at : (n : ℕ) (own list : List ℕ) → own ≡ list → n ≤ 16 → (k : ℕ) → k < n → slice_index (right_column n list) k ≡ slice_index own (n * k + (n - 1))
column_at n own list e most k i = rw e (table-at 16 (λ z. slice_index list (n * z + (n - 1))) k 0 (omega arith))

right_is : (p : Component) (own : Samples) (new : Lines) → new.last ≡ own → (k : ℕ) → k < side p →
    slice_index (store_of p new).left k ≡ slice_index (samples_of own p) (side p * k + (side p - 1))
right_is Y own new e = column_at 16 own.y new.last.y (sym (ap (λ (s : Samples). s.y) e)) (omega arith)
right_is Cb own new e = column_at 8 own.cb new.last.cb (sym (ap (λ (s : Samples). s.cb) e)) (omega arith)
right_is Cr own new e = column_at 8 own.cr new.last.cr (sym (ap (λ (s : Samples). s.cr) e)) (omega arith)

-- the borders are those of each store with the same bottom rows
kept_above : (n c : ℕ) (first old new : Store) (own : List ℕ) → old.above ≡ first.above → IsSaved n c old new own → IsSaved n c first new own
kept_above n c first old new own e saved = record {
  size = saved.size ∙ ap (λ (v : Vec ℕ). vec_len v) e;
  bottom = saved.bottom;
  before = λ k i. saved.before k i ∙ ap (λ (v : Vec ℕ). slice_index v.items k) e;
  after = λ k i. saved.after k i ∙ ap (λ (v : Vec ℕ). slice_index v.items k) e;
  corner = saved.corner ∙ ap (λ (v : Vec ℕ). slice_index v.items (n * c + (n - 1))) e;
}

pub saved_from : (c : ℕ) (first old new : Lines) → ((p : Component) → (store_of p old).above ≡ (store_of p first).above) → AreSaved c old new →
    (p : Component) → IsSaved (side p) c (store_of p first) (store_of p new) (samples_of old.last p)
saved_from c first old new same saved p =
    kept_above (side p) c (store_of p first) (store_of p old) (store_of p new) (samples_of old.last p) (same p) (saved.borders p)

pub stored_next : (k : Setting) (c r : ℕ) (m : Coded) (u : Component → ℕ → ℕ → ℕ) (first old new : Lines) → c < k.across → IsWithin m.available k.across c r →
    IsPossible m.prediction m.available → IsMade k c r m u → AreStored k.across c r u first → AreMadeFrom k (position_at c r) m first old.last →
    ((p : Component) → (store_of p old).above ≡ (store_of p first).above) → AreSaved c old new → AreStored k.across (c + 1) r u new
stored_next k c r m u first old new inside within ok mu held made same saved = λ p.
    stored_more (side p) k.across c r (u p) (store_of p first) (store_of p new) (samples_of old.last p) (side_least p) inside
    (own_is k c r m p u (store_of p first) (samples_of old.last p) inside within ok mu (held p) (made p)) (held p) (saved_from c first old new same saved p)
    (right_is p old.last new saved.last)

-- ---- some samples meet the equations: those that were constructed

pub joined_before : (w c r : ℕ) (frame : Frame) (u : Component → ℕ → ℕ → ℕ) (p : Component) → Agree (side p) w c r (u p) (joined c r frame u p)
joined_before w c r frame u p = record { each = λ x y i b. sym (own_out (side p) c r (at (plane_of p frame)) (u p) x y b) }

joined_own : (c r : ℕ) (old new : Frame) (u : Component → ℕ → ℕ → ℕ) (own : Component → List ℕ) (p : Component) →
    side p * c + side p ≤ (plane_of p old).width → side p * r + side p ≤ (plane_of p old).height →
    ArePlaced c r own old new → (x y : ℕ) → x < side p → y < side p →
    joined c r new u p (side p * c + x) (side p * r + y) ≡ slice_index (own p) (side p * y + x)
joined_own c r old new u own p columns rows placed x y i j =
    own_in (side p) c r (at (plane_of p new)) (u p) x y i j
    ∙ (placed p).samples (side p * c + x) (side p * r + y) (omega arith) (omega arith)
    ∙ block_in (side p) (side p * c) (side p * r) (own p) (at (plane_of p old)) x y i j

pub joined_made : (k : Setting) (c r : ℕ) (m : Coded) (u : Component → ℕ → ℕ → ℕ) (lines : Lines) (own : Component → List ℕ) (old new : Frame) →
    c < k.across → IsWithin m.available k.across c r →
    IsPossible m.prediction m.available → AreStored k.across c r u lines → ((p : Component) → IsMadeFrom k (position_at c r) m p (store_of p lines) (own p)) →
    ((p : Component) → (side p * c + side p ≤ (plane_of p old).width) × (side p * r + side p ≤ (plane_of p old).height)) →
    ArePlaced c r own old new → IsMade k c r m (joined c r new u)
joined_made k c r m u lines own old new inside within ok held made room placed = record {
  each = λ p x y i j.
      let v = joined c r new u p in
      let is = joined_own c r old new u own p ((room p).0) ((room p).1) placed in
      let kept = stored_moves (side p) k.across c r (u p) v (store_of p lines) (side_least p) inside (joined_before k.across c r new u p) (held p) in
      is x y i j ∙ (made p).each x y i j
      ∙ made_by_same m.prediction k c r m p (local (side p) (store_of p lines) c (own p)) (window (side p) v c r) x y i j ok
      (sides_are (side p) k.across c r v m.available (store_of p lines) (own p) (side_least p) inside within kept)
      (record {
        each = λ a b d e f g h h' less.
            local_own (side p) (store_of p lines) c (own p) (4 * a + d) (4 * b + e)
            ∙ sym (is (4 * a + d) (4 * b + e) (omega arith) (omega arith))
            ∙ moved v _ _ (side p * c + (4 * a + d + 1) - 1) (side p * r + (4 * b + e + 1) - 1) (omega arith) (omega arith);
      });
}

-- ---- three planes

pub placed_all : (c r : ℕ) (own : Samples) (f f1 f2 f3 : Frame) →
    IsWritten Y f f1 (with_block 16 16 (16 * c) (16 * r) own.y (at f.y)) → IsWritten Cb f1 f2 (with_block 8 8 (8 * c) (8 * r) own.cb (at f1.cb)) →
    IsWritten Cr f2 f3 (with_block 8 8 (8 * c) (8 * r) own.cr (at f2.cr)) → ArePlaced c r (samples_of own) f f3
placed_all c r own f f1 f2 f3 a b d Y = let e : f3.y ≡ f1.y = d.kept.0 ∙ b.kept.0 in rw e a.written
placed_all c r own f f1 f2 f3 a b d Cb = let e : f3.cb ≡ f2.cb = d.kept.1 in let e' : f1.cb ≡ f.cb = a.kept.0 in rw e (rw e' at b.written)
placed_all c r own f f1 f2 f3 a b d Cr = let e : f2.cr ≡ f.cr = b.kept.1 ∙ a.kept.1 in rw e at d.written

-- a border that was kept, whatever the left columns are
bordered : (n c : ℕ) (old new : Store) (own was now : List ℕ) → IsSaved n c old new own → IsSaved n c (with_left n old was) (with_left n new now) own
bordered n c old new own was now saved = record { size = saved.size; bottom = saved.bottom; before = saved.before; after = saved.after; corner = saved.corner }

bordered_all : (c : ℕ) (old new : Lines) → IsSaved 16 c old.y new.y old.last.y → IsSaved 8 c old.cb new.cb old.last.cb → IsSaved 8 c old.cr new.cr old.last.cr →
    (p : Component) → IsSaved (side p) c (store_of p old) (store_of p new) (samples_of old.last p)
bordered_all c old new a b d Y = bordered 16 c old.y new.y old.last.y old.last.y new.last.y a
bordered_all c old new a b d Cb = bordered 8 c old.cb new.cb old.last.cb old.last.cb new.last.cb b
bordered_all c old new a b d Cr = bordered 8 c old.cr new.cr old.last.cr old.last.cr new.last.cr d

pub saved_all : (c : ℕ) (old new : Lines) → new.last ≡ old.last → IsSaved 16 c old.y new.y old.last.y → IsSaved 8 c old.cb new.cb old.last.cb →
    IsSaved 8 c old.cr new.cr old.last.cr → AreSaved c old new
saved_all c old new e a b d = record { borders = bordered_all c old new a b d; last = e }

pub room_all : (c r : ℕ) (f : Frame) → (16 * c + 16 ≤ f.y.width) × (16 * r + 16 ≤ f.y.height) → (8 * c + 8 ≤ f.cb.width) × (8 * r + 8 ≤ f.cb.height) →
    (8 * c + 8 ≤ f.cr.width) × (8 * r + 8 ≤ f.cr.height) →
    (p : Component) → (side p * c + side p ≤ (plane_of p f).width) × (side p * r + side p ≤ (plane_of p f).height)
room_all c r f a b d Y = a
room_all c r f a b d Cb = b
room_all c r f a b d Cr = d
