-- What a piece adds to a unit, and why it stops the scan.
use Rattle.std.proofs.Common.{◌≡◌, ◌≢◌, ◌⊎◌, inl, inr, ℕ, zero, suc, ◌+◌, ◌-◌, ◌*◌, ◌<◌, ◌≤◌, min, true, false, List, [], ◌∷◌, ◌++◌, length, replicate, take}
use Rattle.std.proofs.Common.{drop, get_or, refl, ap, sym, ◌∙◌, subst, arith, append_assoc, length-append}
use Rattle.std.proofs.lemmas.List.{append-nil, append_cancel_right, drop_more, drop-drop, drop-take, take-take, take_all, length-drop, length-replicate}
use Rattle.std.proofs.lemmas.List.{length-take, replicate-append-replicate, take-append-drop, take_more}
use Rattle.h264_base.specs.declared.rule.Rule.TheVariants.{ByteStream, EmptyUnit}
use Rattle.h264_base.specs.declared.stop.Feature.TheVariants.{UnitTooLong, InputTooLong}
use Rattle.h264_base.specs.declared.stop.Stop.{Stop}
use Rattle.h264_base.specs.declared.stop.Stop.TheVariants.{No, Outside}
use Rattle.h264_units.specs.declared.scan.Phase.{Phase}
use Rattle.h264_units.specs.declared.scan.Phase.TheVariants.{Between, Inside, Waiting, Last, Over}
use Rattle.h264_units.specs.declared.plan.Plan.{Plan}
use Rattle.h264_units.specs.Stream.{IsInner, started, unit_limit, input_limit, Stray, Bare, Long, Cut, HasTail, IsUndecided}
use Rattle.h264_units.specs.Splitting.{Refused}
use Rattle.h264_units.specs.Scanned.{third, ending, rest_of, IsSound, IsOpen, is_open, IsInUnit, IsRunning, waits, kept_of, gained, zeros_gained, Scans}
use Rattle.h264_units.specs.Scanned.{added, Plans}
use Rattle.h264_units.proofs.Streams.{code-zeros, not-zeros, started-append, length-started}
use Rattle.h264_units.proofs.Scans.{inner-append}

-- what is refused stays so when more bytes come
pub refused-more : (at : ℕ) (bytes more : List ℕ) (stop : Stop) → Refused at bytes stop → Refused at (bytes ++ more) stop
refused-more at bytes more stop r = record {
  tail = r.tail;
  stop_is = r.stop_is;
  stands = λ rest. subst (λ l. HasTail at l r.tail) (sym (append_assoc bytes more rest)) (r.stands (more ++ rest));
}

pub refused-along : (at : ℕ) (a b : List ℕ) (stop : Stop) → a ≡ b → Refused at a stop → Refused at b stop
refused-along at a b stop e r = subst (λ l. Refused at l stop) e r

third-low : (code : _) → third code < 2
third-low true = omega arith
third-low false = omega arith

-- a piece scanned in a unit
module _ (at held lead : ℕ) (body piece : List ℕ) (n : ℕ) (phase : Phase) (s : Scans held piece n phase) where
  kept : ℕ
  kept = kept_of n phase

  -- the body with what the piece adds
  pub longer : List ℕ
  longer = body ++ gained held piece (kept_of n phase)

  open-bytes : List ℕ
  open-bytes = started lead (body ++ replicate held 0)

  kept-within : kept_of n phase ≤ n
  kept-within = by phase
    where
      by : (phase : Phase) → kept_of n phase ≤ n
      by Between = omega arith
      by (Inside zeros) = omega arith
      by (Waiting code) = omega arith
      by (Last zeros) = omega arith
      by Over = omega arith

  pub gains : body ++ (replicate (zeros_gained held (kept_of n phase)) 0 ++ take (kept_of n phase) (drop 0 piece)) ≡ body ++ gained held piece (kept_of n phase)
  gains = by (kept_of n phase)
    where
      by : (k : ℕ) → body ++ (replicate (zeros_gained held k) 0 ++ take k (drop 0 piece)) ≡ body ++ gained held piece k
      by zero = refl
      by (suc k) = refl

  pub length-longer : length (body ++ gained held piece (kept_of n phase)) ≡ length body + zeros_gained held (kept_of n phase) + kept_of n phase
  length-longer =
      let k = kept-within in
      let w : n ≤ length piece = s.within in
      let t : length (take (kept_of n phase) (drop 0 piece)) ≡ min (kept_of n phase) (length piece) = length-take (kept_of n phase) piece in
      let a = length-append body (replicate (zeros_gained held (kept_of n phase)) 0 ++ take (kept_of n phase) (drop 0 piece)) in
      let b = length-append (replicate (zeros_gained held (kept_of n phase)) 0) (take (kept_of n phase) (drop 0 piece)) in
      let r : length {A = ℕ} (replicate (zeros_gained held (kept_of n phase)) 0) ≡ zeros_gained held (kept_of n phase) =
      length-replicate (zeros_gained held (kept_of n phase)) 0 in
      sym (ap length gains) ∙ (let e : length (body ++ (replicate (zeros_gained held (kept_of n phase)) 0 ++ take (kept_of n phase) (drop 0 piece))) ≡
      length body + zeros_gained held (kept_of n phase) + kept_of n phase = omega arith in e)

  seen : started lead (body ++ replicate held 0) ++ take n piece ≡ started lead ((body ++ gained held piece (kept_of n phase)) ++ ending phase)
  seen = started-append lead (body ++ replicate held 0) (take n piece)
      ∙ ap (started lead) (append_assoc body (replicate held 0) (take n piece) ∙ ap (λ l. body ++ l) (sym s.whole) ∙
      sym (append_assoc body (gained held piece (kept_of n phase)) (ending phase)))

  seen-all : (more : List ℕ) → (started lead (body ++ replicate held 0) ++ piece) ++ more ≡
      started lead ((body ++ gained held piece (kept_of n phase)) ++ (ending phase ++ (drop n piece ++ more)))
  seen-all more =
      ap (λ l. (started lead (body ++ replicate held 0) ++ l) ++ more) (sym (take-append-drop n piece))
      ∙ ap (λ l. l ++ more) (sym (append_assoc (started lead (body ++ replicate held 0)) (take n piece) (drop n piece)) ∙ ap (λ l. l ++ drop n piece) seen ∙
      started-append lead ((body ++ gained held piece (kept_of n phase)) ++ ending phase) (drop n piece))
      ∙ started-append lead (((body ++ gained held piece (kept_of n phase)) ++ ending phase) ++ drop n piece) more
      ∙ ap (started lead) (append_assoc ((body ++ gained held piece (kept_of n phase)) ++ ending phase) (drop n piece) more ∙
      append_assoc (body ++ gained held piece (kept_of n phase)) (ending phase) (drop n piece ++ more))

  total : length (started lead (body ++ replicate held 0) ++ piece) ≡
      lead + 3 + (length (body ++ gained held piece (kept_of n phase)) + (length (ending phase) + length (drop n piece)))
  total =
      let e : started lead (body ++ replicate held 0) ++ piece ≡
      started lead ((body ++ gained held piece (kept_of n phase)) ++ (ending phase ++ (drop n piece ++ []))) = sym (append-nil _) ∙ seen-all [] in
      ap length e ∙ length-started lead _
      ∙ ap (λ k. lead + 3 + k) (length-append (body ++ gained held piece (kept_of n phase)) _
      ∙ ap (λ k. length (body ++ gained held piece (kept_of n phase)) + k)
      (length-append (ending phase) (drop n piece ++ []) ∙ ap (λ l. length (ending phase) + length l) (append-nil (drop n piece))))

  pub long-refused : IsInner body → unit_limit < length (body ++ gained held piece (kept_of n phase)) →
      at + length (started lead (body ++ replicate held 0) ++ piece) ≤ input_limit →
      Refused at (started lead (body ++ replicate held 0) ++ piece) (Outside (8 * (at + lead + 3)) UnitTooLong)
  long-refused inner h within = record {
    tail = Long (at + lead + 3);
    stop_is = refl;
    stands = λ more. record {
      zeros = lead;
      body = body ++ gained held piece (kept_of n phase);
      rest = ending phase ++ (drop n piece ++ more);
      whole = seen-all more;
      inner = inner-append body (gained held piece (kept_of n phase)) inner s.inner;
      too_many = h;
      place_is = refl;
      shown = let t = total in omega arith;
    };
  }

  pub bare-refused : waits phase ≡ true → length (body ++ gained held piece (kept_of n phase)) ≡ 0 →
      at + length (started lead (body ++ replicate held 0) ++ piece) ≤ input_limit →
      Refused at (started lead (body ++ replicate held 0) ++ piece) (No (8 * (at + lead + 3)) EmptyUnit)
  bare-refused w none within = by phase s.in_unit w seen-all total
    where
      empty : (l r : List ℕ) → length l ≡ 0 → l ++ r ≡ r
      empty [] r h = refl
      empty (x ∷ l) r h = absurd (omega arith)

      by : (p : Phase) → IsInUnit p → waits p ≡ true →
          ((more : List ℕ) → (started lead (body ++ replicate held 0) ++ piece) ++ more ≡
          started lead ((body ++ gained held piece (kept_of n phase)) ++ (ending p ++ (drop n piece ++ more)))) →
          length (started lead (body ++ replicate held 0) ++ piece) ≡
          lead + 3 + (length (body ++ gained held piece (kept_of n phase)) + (length (ending p) + length (drop n piece))) →
          Refused at (started lead (body ++ replicate held 0) ++ piece) (No (8 * (at + lead + 3)) EmptyUnit)
      by Between i w all t = absurd i
      by (Inside zeros) i w all t = cc
      by (Waiting code) i w all t = record {
        tail = Bare (at + lead + 3);
        stop_is = refl;
        stands = λ more. record {
          zeros = lead;
          rest = 0 ∷ 0 ∷ third code ∷ (drop n piece ++ more);
          whole = all more ∙ ap (started lead) (empty (body ++ gained held piece (kept_of n phase)) _ none);
          ends = (refl, refl, third-low code);
          place_is = refl;
          shown = omega arith;
        };
      }
      by (Last zeros) i w all t = absurd i
      by Over i w all t = absurd i

  rest-in-unit : (b : List ℕ) → rest_of phase lead b ≡ started lead (b ++ ending phase)
  rest-in-unit b = by phase s.in_unit
    where
      by : (p : Phase) → IsInUnit p → rest_of p lead b ≡ started lead (b ++ ending p)
      by Between i = absurd i
      by (Inside zeros) i = refl
      by (Waiting code) i = refl
      by (Last zeros) i = absurd i
      by Over i = absurd i

  sound-in-unit : (b : List ℕ) → IsInner b → length b ≤ unit_limit → (waits phase ≡ true → length b ≢ 0) → IsSound phase b
  sound-in-unit b inner fits some = by phase s.in_unit some
    where
      by : (p : Phase) → IsInUnit p → (waits p ≡ true → length b ≢ 0) → IsSound p b
      by Between i w = absurd i
      by (Inside zeros) i w = (i, inner, fits)
      by (Waiting code) i w = let n = w refl in ((omega arith, inner), fits)
      by (Last zeros) i w = absurd i
      by Over i w = absurd i

  running : IsRunning phase
  running = by phase s.in_unit
    where
      by : (p : Phase) → IsInUnit p → IsRunning p
      by Between i = absurd i
      by (Inside zeros) i = tt
      by (Waiting code) i = tt
      by (Last zeros) i = absurd i
      by Over i = absurd i

  few-gained : (k : ℕ) → held < 3 → zeros_gained held k < 3
  few-gained zero h = omega arith
  few-gained (suc k) h = h

  -- what becomes of the piece
  pub plans-inside : (zeros kept : ℕ) → kept ≡ kept_of n phase → zeros ≡ zeros_gained held kept → IsInner body → held < 3 →
      length body + zeros + kept ≤ unit_limit → (waits phase ≡ true → length body + zeros + kept ≢ 0) → (IsOpen phase → n ≡ length piece) →
      (¬ IsOpen phase → 0 < n) → Plans (Inside held) lead body piece (record { taken = n; lead = lead; zeros = zeros; start = 0; kept = kept; phase = phase })
  plans-inside zeros kept k z inner few fits some all closed =
      let g : body ++ (replicate zeros 0 ++ take kept (drop 0 piece)) ≡ body ++ gained held piece (kept_of n phase) =
      ap (λ z. body ++ (replicate z 0 ++ take kept (drop 0 piece))) z ∙ ap (λ k. body ++ (replicate (zeros_gained held k) 0 ++ take k (drop 0 piece))) k ∙
      gains in
      let l : length (body ++ gained held piece (kept_of n phase)) ≡ length body + zeros + kept = length-longer ∙
      ap (λ k. length body + zeros_gained held k + k) (sym k) ∙ ap (λ z. length body + z + kept) (sym z) in
      let w = kept-within in
      let v : n ≤ length piece = s.within in
      record {
        within = v;
        adds_within = omega arith;
        rest_is = ap (rest_of phase lead) g ∙ rest-in-unit (body ++ gained held piece (kept_of n phase)) ∙ sym seen;
        sound = subst (IsSound phase) (sym g) (sound-in-unit (body ++ gained held piece (kept_of n phase))
            (inner-append body (gained held piece (kept_of n phase)) inner s.inner) (omega arith) (λ y e. some y (sym l ∙ e)));
        runs = running;
        all = all;
        some = closed;
        few = subst (λ n. n < 3) (sym z) (few-gained kept few);
      }

zeros-run : (z : ℕ) (piece : List ℕ) → z ≤ length piece → ((k : ℕ) → k < z → get_or piece k 0 ≡ 0) → take z piece ≡ replicate z 0
zeros-run zero piece h all = refl
zeros-run (suc z) [] h all = absurd (omega arith)
zeros-run (suc z) (x ∷ piece) h all =
    let first : x ≡ 0 = all 0 (omega arith) in
    let next = zeros-run z piece (omega arith) (λ k lt. all (suc k) (omega arith)) in
    cc

-- a piece between units, which begins with zeros
module _ (at lead : ℕ) (piece : List ℕ) (z : ℕ) (within : z ≤ length piece) (all : (k : ℕ) → k < z → get_or piece k 0 ≡ 0) where
  led : replicate lead 0 ++ take z piece ≡ replicate (lead + z) 0
  led = ap (λ l. replicate lead 0 ++ l) (zeros-run z piece within all) ∙ replicate-append-replicate lead z 0

  led-all : replicate lead 0 ++ piece ≡ replicate (lead + z) 0 ++ drop z piece
  led-all = ap (λ l. replicate lead 0 ++ l) (sym (take-append-drop z piece)) ∙ sym (append_assoc (replicate lead 0) (take z piece) (drop z piece)) ∙
      ap (λ l. l ++ drop z piece) led

  pub plans-zeros : z ≡ length piece → (lead' : ℕ) → lead' ≡ lead + z →
      Plans Between lead [] piece (record { taken = z; lead = lead'; zeros = 0; start = z; kept = 0; phase = Between })
  plans-zeros e lead' l = record {
    within = within;
    adds_within = omega arith;
    rest_is = ap (λ n. replicate n 0) l ∙ sym led;
    sound = refl;
    runs = tt;
    all = λ o. e;
    some = λ n. absurd (n tt);
    few = omega arith;
  }

  pub stray-refused : z < length piece → get_or piece z 0 ≢ 0 → (get_or piece z 0 ≡ 1 → lead + z < 2) →
      at + length (replicate lead 0 ++ piece) ≤ input_limit → Refused at (replicate lead 0 ++ piece) (No (8 * (at + (lead + z))) ByteStream)
  stray-refused more other code fits = record {
    tail = Stray (at + (lead + z));
    stop_is = refl;
    stands = λ rest. record {
      zeros = lead + z;
      byte = get_or piece z 0;
      rest = drop (z + 1) piece ++ rest;
      whole = ap (λ l. l ++ rest) (led-all ∙ ap (λ l. replicate (lead + z) 0 ++ l) (drop_more piece z 0 more)) ∙
          append_assoc (replicate (lead + z) 0) (get_or piece z 0 ∷ drop (z + 1) piece) rest;
      other = other;
      no_code = code;
      place_is = refl;
      shown = let n : length (replicate lead 0 ++ piece) ≡ lead + length piece = length-append (replicate lead 0) piece ∙
          ap (λ k. k + length piece) (length-replicate lead 0) in omega arith;
    };
  }

  module _ (more : z < length piece) (one : get_or piece z 0 ≡ 1) (two : 2 ≤ lead + z) where
    coded : replicate lead 0 ++ piece ≡ started (lead + z - 2) (drop (z + 1) piece)
    coded = led-all ∙ ap (λ l. replicate (lead + z) 0 ++ l) (drop_more piece z 0 more ∙ ap (λ b. b ∷ drop (z + 1) piece) one)
        ∙ ap (λ n. replicate n 0 ++ 1 ∷ drop (z + 1) piece) (let e : lead + z ≡ lead + z - 2 + 2 = omega arith in e) ∙
        sym (code-zeros (lead + z - 2) (drop (z + 1) piece))

    pub begun : replicate lead 0 ++ piece ≡ started (lead + z - 2) [] ++ drop (z + 1) piece
    begun = coded ∙ sym (started-append (lead + z - 2) [] (drop (z + 1) piece))

    begun-front : (n : ℕ) → replicate lead 0 ++ take (z + 1 + n) piece ≡ started (lead + z - 2) [] ++ take n (drop (z + 1) piece)
    begun-front n = append_cancel_right (replicate lead 0 ++ take (z + 1 + n) piece) (started (lead + z - 2) [] ++ take n (drop (z + 1) piece))
        (drop (z + 1 + n) piece)
        (append_assoc (replicate lead 0) (take (z + 1 + n) piece) (drop (z + 1 + n) piece) ∙
        ap (λ l. replicate lead 0 ++ l) (take-append-drop (z + 1 + n) piece) ∙ begun
        ∙ ap (λ l. started (lead + z - 2) [] ++ l)
        (sym (take-append-drop n (drop (z + 1) piece)) ∙ ap (λ l. take n (drop (z + 1) piece) ++ l) (drop-drop n (z + 1) piece))
        ∙ sym (append_assoc (started (lead + z - 2) []) (take n (drop (z + 1) piece)) (drop (z + 1 + n) piece)))

    pub plans-begun : (plan : Plan) → Plans (Inside 0) (lead + z - 2) [] (drop (z + 1) piece) plan →
        Plans Between lead [] piece (record plan { taken = z + 1 + plan.taken; start = z + 1 + plan.start })
    plans-begun plan p =
        let d : length (drop (z + 1) piece) ≡ length piece - (z + 1) = length-drop (z + 1) piece in
        let w : plan.taken ≤ length (drop (z + 1) piece) = p.within in
        let v : plan.start + plan.kept ≤ length (drop (z + 1) piece) = p.adds_within in
        let same : take plan.kept (drop plan.start (drop (z + 1) piece)) ≡ take plan.kept (drop (z + 1 + plan.start) piece) =
        ap (take plan.kept) (drop-drop plan.start (z + 1) piece) in
        record {
          within = omega arith;
          adds_within = omega arith;
          rest_is = ap (λ l. rest_of plan.phase plan.lead (replicate plan.zeros 0 ++ l)) (sym same) ∙ p.rest_is ∙ sym (begun-front plan.taken);
          sound = subst (λ l. IsSound plan.phase (replicate plan.zeros 0 ++ l)) same p.sound;
          runs = p.runs;
          all = λ o. let e = p.all o in omega arith;
          some = λ n. omega arith;
          few = p.few;
        }

-- a phase that takes bytes shows no unit
pub open-undecided : (phase : Phase) (lead : ℕ) (body : List ℕ) → IsOpen phase → IsSound phase body → IsUndecided (rest_of phase lead body)
open-undecided Between lead body o s = inl (lead, refl)
open-undecided (Inside zeros) lead body o s = inr (record { zeros = lead; body = body; held = zeros; whole = refl; inner = s.1; fits = s.2; few = s.0 })
open-undecided (Waiting code) lead body o s = absurd o
open-undecided (Last zeros) lead body o s = absurd o
open-undecided Over lead body o s = absurd o

-- a plan for the front of a piece, of which some bytes are not judged
module _ (at lead : ℕ) (body : List ℕ) (phase : Phase) (piece : List ℕ) (room : ℕ) (over : room < length piece)
    (limit : at + length (rest_of phase lead body) + room ≡ input_limit) where
  pub front-refused : (stop : Stop) → Refused at (rest_of phase lead body ++ take room piece) stop → Refused at (rest_of phase lead body ++ piece) stop
  front-refused stop r = subst (λ l. Refused at l stop)
      (append_assoc (rest_of phase lead body) (take room piece) (drop room piece) ∙ ap (λ l. rest_of phase lead body ++ l) (take-append-drop room piece))
      (refused-more at (rest_of phase lead body ++ take room piece) (drop room piece) stop r)

  module _ (plan : Plan) (p : Plans phase lead body (take room piece) plan) where
    taken-within : plan.taken ≤ room
    taken-within = let w : plan.taken ≤ length (take room piece) = p.within in
        let t : length (take room piece) ≡ min room (length piece) = length-take room piece in omega arith

    same-added : added plan (take room piece) ≡ added plan piece
    same-added =
        let w : plan.start + plan.kept ≤ length (take room piece) = p.adds_within in
        let t : length (take room piece) ≡ min room (length piece) = length-take room piece in
        let s : plan.start + plan.kept ≤ room = omega arith in
        ap (λ l. replicate plan.zeros 0 ++ l)
        (sym (drop-take plan.start plan.kept (take room piece)) ∙ ap (drop plan.start) (take-take (plan.start + plan.kept) room piece s) ∙
        drop-take plan.start plan.kept piece)

    pub plans-front : (IsOpen plan.phase → ⊥) → Plans phase lead body piece plan
    plans-front closed =
        let t = taken-within in
        let w : plan.start + plan.kept ≤ length (take room piece) = p.adds_within in
        let n : length (take room piece) ≡ min room (length piece) = length-take room piece in
        record {
          within = omega arith;
          adds_within = omega arith;
          rest_is = ap (λ l. rest_of plan.phase plan.lead (body ++ l)) (sym same-added) ∙ p.rest_is ∙
              ap (λ l. rest_of phase lead body ++ l) (take-take plan.taken room piece t);
          sound = subst (λ l. IsSound plan.phase (body ++ l)) same-added p.sound;
          runs = p.runs;
          all = λ o. absurd (closed o);
          some = p.some;
          few = p.few;
        }

    pub cut-refused : IsOpen plan.phase → Refused at (rest_of phase lead body ++ piece) (Outside (8 * input_limit) InputTooLong)
    cut-refused o =
        let n : length (take room piece) ≡ min room (length piece) = length-take room piece in
        let d : length (drop room piece) ≡ length piece - room = length-drop room piece in
        let all : plan.taken ≡ length (take room piece) = p.all o in
        let whole : rest_of plan.phase plan.lead (body ++ added plan (take room piece)) ≡ rest_of phase lead body ++ take room piece =
        p.rest_is ∙ ap (λ l. rest_of phase lead body ++ l)
        (ap (λ k. take k (take room piece)) all ∙ take_all (length (take room piece)) (take room piece) (omega arith)) in
        record {
          tail = Cut;
          stop_is = refl;
          stands = λ more. let m : length (drop room piece ++ more) ≡ length (drop room piece) + length more = length-append (drop room piece) more in record {
            front = rest_of phase lead body ++ take room piece;
            rest = drop room piece ++ more;
            whole = ap (λ l. (rest_of phase lead body ++ l) ++ more) (sym (take-append-drop room piece)) ∙
                ap (λ l. l ++ more) (sym (append_assoc (rest_of phase lead body) (take room piece) (drop room piece))) ∙
                append_assoc (rest_of phase lead body ++ take room piece) (drop room piece) more;
            front_ends = let l : length (rest_of phase lead body ++ take room piece) ≡ length (rest_of phase lead body) + length (take room piece) =
                length-append (rest_of phase lead body) (take room piece) in omega arith;
            goes_on = omega arith;
            undecided = subst IsUndecided whole (open-undecided plan.phase plan.lead (body ++ added plan (take room piece)) o p.sound);
          };
        }

pub opened : (phase : Phase) → true ≡ is_open phase → IsOpen phase
opened Between e = tt
opened (Inside zeros) e = tt
opened (Waiting code) e = cc
opened (Last zeros) e = cc
opened Over e = cc

pub not-opened : (phase : Phase) → false ≡ is_open phase → IsOpen phase → ⊥
not-opened Between e o = cc
not-opened (Inside zeros) e o = cc
not-opened (Waiting code) e o = o
not-opened (Last zeros) e o = o
not-opened Over e o = o

open? : (phase : Phase) → IsOpen phase ⊎ (¬ IsOpen phase)
open? Between = inl tt
open? (Inside zeros) = inl tt
open? (Waiting code) = inr (λ o. o)
open? (Last zeros) = inr (λ o. o)
open? Over = inr (λ o. o)

pub takes-some : (phase : Phase) (lead : ℕ) (body piece : List ℕ) (plan : Plan) → Plans phase lead body piece plan → 0 < length piece → 0 < plan.taken
takes-some phase lead body piece plan p more = elim (open? plan.phase) [ inl o ↦ let e = p.all o in omega arith | inr n ↦ p.some n ]

-- two lists without their last element
same-front : (a b : List ℕ) (x y : ℕ) → a ++ x ∷ [] ≡ b ++ y ∷ [] → a ≡ b
same-front [] [] x y e = refl
same-front [] (d ∷ []) x y e = cc
same-front [] (d ∷ f ∷ b) x y e = cc
same-front (c ∷ []) [] x y e = cc
same-front (c ∷ f ∷ a) [] x y e = cc
same-front (c ∷ a) (d ∷ b) x y e =
    let heads : c ≡ d = cc in
    let tails : a ++ x ∷ [] ≡ b ++ y ∷ [] = cc in
    cc (heads, same-front a b x y tails)

-- before the last byte taken no unit waits
pub least-taken : (phase : Phase) (lead : ℕ) (body piece : List ℕ) (plan : Plan) → Plans phase lead body piece plan → waits plan.phase ≡ true →
    IsUndecided (rest_of phase lead body ++ take (plan.taken - 1) piece)
least-taken phase lead body piece plan p w = by plan.phase p.runs p.sound p.rest_is p.some w
  where
    split : 0 < plan.taken → take plan.taken piece ≡ take (plan.taken - 1) piece ++ get_or piece (plan.taken - 1) 0 ∷ []
    split h = let v : plan.taken ≤ length piece = p.within in
        let m : plan.taken - 1 + 1 ≡ plan.taken = omega arith in
        ap (λ n. take n piece) (sym m) ∙ take_more piece (plan.taken - 1) 0 (omega arith)

    by : (q : Phase) → IsRunning q → IsSound q (body ++ added plan piece) →
        rest_of q plan.lead (body ++ added plan piece) ≡ rest_of phase lead body ++ take plan.taken piece → (¬ IsOpen q → 0 < plan.taken) → waits q ≡ true →
        IsUndecided (rest_of phase lead body ++ take (plan.taken - 1) piece)
    by Between r s e n w = cc
    by (Inside zeros) r s e n w = cc
    by (Waiting code) r s e n w =
        let b = body ++ added plan piece in
        let whole : started plan.lead (b ++ 0 ∷ 0 ∷ []) ++ third code ∷ [] ≡
        (rest_of phase lead body ++ take (plan.taken - 1) piece) ++ get_or piece (plan.taken - 1) 0 ∷ [] =
        started-append plan.lead (b ++ 0 ∷ 0 ∷ []) (third code ∷ []) ∙ ap (started plan.lead) (append_assoc b (0 ∷ 0 ∷ []) (third code ∷ [])) ∙ e ∙
        ap (λ l. rest_of phase lead body ++ l) (split (n (λ o. o))) ∙ sym (append_assoc (rest_of phase lead body) (take (plan.taken - 1) piece) _) in
        inr (record {
          zeros = plan.lead;
          body = b;
          held = 2;
          whole = sym (same-front (started plan.lead (b ++ 0 ∷ 0 ∷ [])) (rest_of phase lead body ++ take (plan.taken - 1) piece) (third code) _ whole);
          inner = s.0.1;
          fits = s.1;
          few = omega arith;
        })
    by (Last zeros) r s e n w = absurd r
    by Over r s e n w = absurd r

-- the front of zeros is zeros
zeros-front : (a b : List ℕ) (n : ℕ) → a ++ b ≡ replicate n 0 → a ≡ replicate (length a) 0
zeros-front [] b n e = refl
zeros-front (x ∷ a) b zero e = cc
zeros-front (x ∷ a) b (suc n) e =
    let head : x ≡ 0 = cc in
    let tail : a ++ b ≡ replicate n 0 = cc in
    cc (head, zeros-front a b n tail)

started-some : (m n : ℕ) (x : List ℕ) → started m x ≡ replicate n 0 → ⊥
started-some m n x e = not-zeros (m + 2) n 1 x (λ h. cc) (sym (code-zeros m x) ∙ e)

-- where zeros alone come nothing is kept
pub grows-some : (phase : Phase) (lead : ℕ) (body piece : List ℕ) (plan : Plan) → Plans phase lead body piece plan → 0 < plan.zeros + plan.kept →
    (n : ℕ) → rest_of phase lead body ++ piece ≡ replicate n 0 → ⊥
grows-some phase lead body piece plan p some n e = by plan.phase p.sound p.rest_is
  where
    front : rest_of phase lead body ++ take plan.taken piece ≡ replicate (length (rest_of phase lead body ++ take plan.taken piece)) 0
    front = zeros-front (rest_of phase lead body ++ take plan.taken piece) (drop plan.taken piece) n
        (append_assoc (rest_of phase lead body) (take plan.taken piece) (drop plan.taken piece)
        ∙ ap (λ l. rest_of phase lead body ++ l) (take-append-drop plan.taken piece) ∙ e)

    none : body ++ added plan piece ≡ [] → ⊥
    none h =
        let a = length-append body (replicate plan.zeros 0 ++ take plan.kept (drop plan.start piece)) in
        let b = length-append (replicate plan.zeros 0) (take plan.kept (drop plan.start piece)) in
        let z : length {A = ℕ} (replicate plan.zeros 0) ≡ plan.zeros = length-replicate plan.zeros 0 in
        let k : length (take plan.kept (drop plan.start piece)) ≡ min plan.kept (length (drop plan.start piece)) =
        length-take plan.kept (drop plan.start piece) in
        let d : length (drop plan.start piece) ≡ length piece - plan.start = length-drop plan.start piece in
        let w : plan.start + plan.kept ≤ length piece = p.adds_within in
        let l : length (body ++ (replicate plan.zeros 0 ++ take plan.kept (drop plan.start piece))) ≡ 0 = ap length h in
        omega arith

    by : (q : Phase) → IsSound q (body ++ added plan piece) →
        rest_of q plan.lead (body ++ added plan piece) ≡ rest_of phase lead body ++ take plan.taken piece → ⊥
    by Between s r = none s
    by (Inside zeros) s r = started-some plan.lead _ _ (r ∙ front)
    by (Waiting code) s r = started-some plan.lead _ _ (r ∙ front)
    by (Last zeros) s r = started-some plan.lead _ _ (r ∙ front)
    by Over s r = none s
