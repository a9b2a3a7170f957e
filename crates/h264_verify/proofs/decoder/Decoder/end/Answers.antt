use Rattle.h264_verify.specs.declared.state.Depth.TheVariants as depths
use Rattle.std.proofs.Common.{◌≡◌, ◌+◌, true, false, List, ◌∷◌, Ok, sym, ap, refl, subst, length}
use Rattle.std.proofs.lemmas.Result.{err_from_is_err_and}
use Rattle.h264_picture.specs.Places.{lent}
use Rattle.h264_dpb.specs.declared.output.Output.{Output}
use Rattle.h264_dpb.specs.Turns.{way_turn, store_turn}
use Rattle.h264_dpb.specs.Kept.{KeepsBuffer, HasFrames, IsAtPlace, placed_at}
use Rattle.h264_dpb.specs.Writing.{Writes}
use Rattle.h264_verify.specs.declared.decoder.Decoder.{Decoder}
use Rattle.h264_verify.specs.Telling.{Family, calls_to_show}
use Rattle.h264_verify.specs.Pictures.{CodedPicture}
use Rattle.h264_verify.specs.Buffering.{ended_picture, within_newest}
use Rattle.h264_verify.specs.Keeping.{KeepsFrames}
use Rattle.h264_verify.specs.Memory.{format_of}
use Rattle.h264_header.proofs.Entries.{where-ok}
use Rattle.h264_verify.proofs.kept.WhereMade.{full-made}
use Rattle.h264_verify.proofs.samples.PictureEndFrame.{with_frame, with-agrees, with-family}
use Rattle.h264_verify.proofs.samples.FamiliesByPurpose.{lent-for, lent-some, some-map, some-both, family-kept}
use Rattle.h264_verify.proofs.samples.ToldFrames.{IsLentFor, writes-kept, writes-alone, written-by, written-with}
use Rattle.h264_verify.proofs.samples.PlacedFrames.{IsFramed, Settled, framed-by, has-frame, way-stops, way-store, ended-few, size-of, frames-then}
use Rattle.h264_verify.proofs.samples.PlacedFrames.{ready-then, ready-now}
use Rattle.h264_verify.proofs.samples.PlacedFrames.{ordered-then, at-place, shown-then, frames-now, few-stored, released-then, room-then}
use Rattle.h264_verify.proofs.samples.PlacedFrames.{stored-frames, purpose-then}
use Rattle.h264_verify.proofs.decoder.Decoder.end.Given.{Over}
use Rattle.h264_verify.proofs.decoder.Decoder.end.Goals.{After-end, In_ok-make_way, After-settle, After-store}
use Rattle.h264_verify.proofs.decoder.Decoder.end.Goals as goal

-- ---- the picture is decoded

module _ (g : Over) (c : After-end g) (frames : Family) (p : CodedPicture) (ps : List CodedPicture) (k : KeepsFrames frames true false (p ∷ ps) c.args.self.now)
  where
    framed : IsFramed frames p (lent c.end.new.self c.args.self.now.place)
    framed = framed-by frames p _ c.args.self.now.work k.output.made (λ m. c.end.ensures.ended m _ _ _ (size-of frames p ps c.args.self.now k) k.picture.begun)

    lent-on : IsLentFor (with_frame frames (length ps) (lent c.end.new.self c.args.self.now.place)) (lent c.end.new.self) c.args.self.now.output
    lent-on = frames-then frames p ps c.args.self.now k c.end.new.self c.end.ensures.kept c.end.ensures.purpose _ framed

pub make_way-requires-clause-ordered : goal.make_way-requires-clause-ordered
make_way-requires-clause-ordered g c = let k = c.requires.kept in ordered-then k.frames k.p k.ps c.args.self.now c.args.picture.now k.is k.keeps

pub make_way-requires-clause-size : goal.make_way-requires-clause-size
make_way-requires-clause-size g c = let k = c.requires.kept in ended-few k.p k.ps c.args.picture.now k.is

pub make_way-requires-clause-ready : goal.make_way-requires-clause-ready
make_way-requires-clause-ready g c =
    let k = c.requires.kept in ready-then k.frames k.p k.ps c.args.self.now k.keeps c.end.new.self c.end.ensures.kept c.end.ensures.purpose

-- ---- no way is made

pub returns-in_err-make_way-clause-ends : goal.returns-in_err-make_way-clause-ends
returns-in_err-make_way-clause-ends g c =
    let q = err_from_is_err_and c.from_residual.result c.from_residual.ensures.1 in
    rw (q.1, q.2) (λ frames p ps is held whole k.
    let a = (goal.at.returns-in_err-make_way-clause-ends g c).After-end in
    let o = lent c.end.new.self c.args.self.now.place in
    let d = has-frame frames p ps c.args.self.now k o (framed g a frames p ps k) (λ making x. c.end.ensures.decoded _ _ _ making _ x whole k.picture.begun) in
    record {
      made = with_frame frames (length ps) o;
      same = with-agrees frames (length ps) o;
      plays = way-stops (with_frame frames (length ps) o) g.S.Elements.took g.S.Elements.failures p ps c.args.picture.now c.args.held.now is held _ d _ _ _
          (written-by (with_frame frames (length ps) o) g.S.Elements.took g.S.Elements.failures (lent c.end.new.self) c.args.self.now.output _ _ _ _
          (lent-on g a frames p ps k)
          (λ f x. c.in_err-make_way.ensures.writes f _ _ k.output.buffer x) c.in_err-make_way.ensures.passes);
      keeps = tt;
    })

pub returns-in_err-make_way-clause-no_memory : goal.returns-in_err-make_way-clause-no_memory
returns-in_err-make_way-clause-no_memory g c =
    let q = err_from_is_err_and c.from_residual.result c.from_residual.ensures.1 in
    let k = c.requires.kept in
    rw (q.1, q.2) (writes-alone _ _ _ _ _ _ (written-by _ g.S.Elements.took g.S.Elements.failures (lent c.end.new.self) c.args.self.now.output _ _ _ _
    (lent-on g (goal.at.returns-in_err-make_way-clause-no_memory g c).After-end k.frames k.p k.ps k.keeps)
    (λ f x. c.in_err-make_way.ensures.writes f _ _ k.keeps.output.buffer x) c.in_err-make_way.ensures.passes))

-- ---- way is made, and the frames of the sequence before are let go of

module _ (g : Over) (c : In_ok-make_way g) (frames : Family) (p : CodedPicture) (ps : List CodedPicture)
    (k : KeepsFrames frames true false (p ∷ ps) c.args.self.now)
    (on : IsLentFor (with_frame frames (length ps) (lent c.end.new.self c.args.self.now.place)) (lent c.end.new.self) c.args.self.now.output) where
  way-written : Writes g.S.Elements.took g.S.Elements.failures (calls_to_show (with_frame frames (length ps) (lent c.end.new.self c.args.self.now.place))
      (way_turn c.args.picture.now (within_newest (p ∷ ps)).buffer).written) c.args.sink.now c.make_way.new.sink (Ok c.in_ok-make_way.field-0)
  way-written = written-by _ g.S.Elements.took g.S.Elements.failures (lent c.end.new.self) c.args.self.now.output _ _ _ _ on
      (λ f x. c.in_ok-make_way.ensures.writes f _ _ k.output.buffer x) c.in_ok-make_way.ensures.passes

settled : (g : Over) (c : After-settle g) → Settled c.args.picture.now c.args.self.now
    (record c.args.self.now { work = c.end.new.self; output = c.make_way.new.self }) c.settle.new.self c.end.new.self
    (lent c.end.new.self c.args.self.now.place)
settled g c = record {
  work_is = refl;
  place_is = refl;
  format_is = refl;
  lent_is = refl;
  first = c.end.ensures.first;
  stays_if = c.settle.ensures.stays;
  others = c.settle.ensures.others;
  on = c.settle.ensures.kept;
  emptied = c.in_ok-make_way.ensures.emptied;
  purpose = c.end.ensures.purpose;
  purpose_then = c.settle.ensures.purpose;
}

pub store-requires-clause-room : goal.store-requires-clause-room
store-requires-clause-room g c =
    let k = c.requires.kept in
    let at = goal.at.store-requires-clause-room g c in
    rw (writes-kept _ _ _ _ _ _ (way-written g at.In_ok-make_way k.frames k.p k.ps k.keeps (lent-on g at.After-end k.frames k.p k.ps k.keeps)))
    c.requires.room

pub store-requires-clause-own : goal.store-requires-clause-own
store-requires-clause-own g c =
    let k = c.requires.kept in
    let at = goal.at.store-requires-clause-own g c in
    shown-then k.frames k.p k.ps c.args.self.now c.args.picture.now k.is k.keeps _ c.settle.new.self c.end.new.self _
    (framed g at.After-end k.frames k.p k.ps k.keeps) (settled g at.After-settle)

pub store-requires-clause-ready : goal.store-requires-clause-ready
store-requires-clause-ready g c =
    let k = c.requires.kept in
    ready-now k.p k.ps c.args.self.now c.args.picture.now k.is _ c.settle.new.self c.end.new.self _
    (settled g (goal.at.store-requires-clause-ready g c).After-settle) c.in_ok-make_way.ensures.ready

pub store-requires-clause-few : goal.store-requires-clause-few
store-requires-clause-few g c =
    let k = c.requires.kept in
    few-stored k.frames k.p k.ps c.args.self.now c.args.picture.now k.is k.keeps c.make_way.new.self c.settle.new.self.output _ _
    (c.in_ok-make_way.ensures.keeps _ _ k.keeps.output.buffer) (ap (λ (d : Decoder). d.output) c.settle.ensures.others) k.few

pub store-requires-clause-marked : goal.store-requires-clause-marked
store-requires-clause-marked g c = c.requires.kept.marked

-- ---- it takes its place

module _ (g : Over) (c : After-store g) (frames : Family) (p : CodedPicture) (ps : List CodedPicture) (is : c.args.picture.now ≡ ended_picture p ps)
    (k : KeepsFrames frames true false (p ∷ ps) c.args.self.now) where
  abbrev made : Family
  made = with_frame frames (length ps) (lent c.end.new.self c.args.self.now.place)

  lent-now : IsLentFor made (lent c.settle.new.self.work) c.settle.new.self.output
  lent-now =
      let at = goal.at.returns-clause-ends g c in
      let family = with-family _ frames (length ps) (lent c.end.new.self c.args.self.now.place) k.output.made in
      frames-now p ps c.args.self.now c.args.picture.now is _ c.settle.new.self c.end.new.self _ (settled g at.After-settle) made family
      (lent-for made c.end.new.self c.make_way.new.self (family-kept made c.args.self.now.work c.end.new.self c.end.ensures.purpose family)
      (some-map _ _ made (λ f x. c.in_ok-make_way.ensures.frames f x)
      (lent-some made c.end.new.self c.args.self.now.output (lent-on g at.After-end frames p ps k))))

  buffer-now : KeepsBuffer (way_turn c.args.picture.now (within_newest (p ∷ ps)).buffer).buffer
      (length (within_newest (p ∷ ps)).written + length (way_turn c.args.picture.now (within_newest (p ∷ ps)).buffer).written) c.settle.new.self.output
  buffer-now = subst (λ (x : Output). KeepsBuffer (way_turn c.args.picture.now (within_newest (p ∷ ps)).buffer).buffer
      (length (within_newest (p ∷ ps)).written + length (way_turn c.args.picture.now (within_newest (p ∷ ps)).buffer).written) x)
      (sym (ap (λ (d : Decoder). d.output) c.settle.ensures.others)) (c.in_ok-make_way.ensures.keeps _ _ k.output.buffer)

  stored : Writes g.S.Elements.took g.S.Elements.failures
      (calls_to_show made (store_turn c.args.picture.now c.args.held.now (way_turn c.args.picture.now (within_newest (p ∷ ps)).buffer).buffer).written)
      c.make_way.new.sink c.store.new.sink c.store.result
  stored =
      let at = goal.at.returns-clause-ends g c in
      written-with (λ f. IsAtPlace f (lent c.settle.new.self.work) (placed_at c.args.picture.now c.settle.new.self.place)) made g.S.Elements.took
      g.S.Elements.failures (lent c.settle.new.self.work) c.settle.new.self.output _ _ _ c.store.result lent-now
      (at-place frames p ps c.args.self.now c.args.picture.now is k _ c.settle.new.self c.end.new.self _ (framed g at.After-end frames p ps k)
      (settled g at.After-settle)) (λ f x y. c.store.ensures.writes f _ _ buffer-now x y) c.store.ensures.passes

pub returns-clause-no_memory : goal.returns-clause-no_memory
returns-clause-no_memory g c = let k = c.requires.kept in writes-alone _ _ _ _ _ _ (stored g c k.frames k.p k.ps k.is k.keeps)

pub returns-clause-kept : goal.returns-clause-kept
returns-clause-kept g c =
    let k = c.requires.kept in
    let at = goal.at.returns-clause-kept g c in
    rw (sym (writes-kept _ _ _ _ _ _ (way-written g at.In_ok-make_way k.frames k.p k.ps k.keeps (lent-on g at.After-end k.frames k.p k.ps k.keeps))))
    (writes-kept _ _ _ _ _ _ (stored g c k.frames k.p k.ps k.is k.keeps))

pub returns-clause-ends : goal.returns-clause-ends
returns-clause-ends g c = λ frames p ps is held whole k.
    let at = goal.at.returns-clause-ends g c in
    let o = lent c.end.new.self c.args.self.now.place in
    let h = framed g at.After-end frames p ps k in
    let s = settled g at.After-settle in
    let mid : Decoder = record c.args.self.now { work = c.end.new.self; output = c.make_way.new.self } in
    let d = has-frame frames p ps c.args.self.now k o h (λ making x. c.end.ensures.decoded _ _ _ making _ x whole k.picture.begun) in
    let room = c.settle.ensures.room (format_of p.first.sps)
    (room-then frames p ps c.args.self.now c.end.new.self k c.end.ensures.serves c.end.ensures.size c.end.ensures.places) in
    let gone = released-then frames p ps c.args.self.now mid c.settle.new.self c.args.picture.now is k c.end.ensures.released c.settle.ensures.released
    c.settle.ensures.stays in
    record {
      made = made g c frames p ps is k;
      same = with-agrees frames (length ps) o;
      plays = way-store (made g c frames p ps is k) g.S.Elements.took g.S.Elements.failures p ps c.args.picture.now c.args.held.now is held _ d _ _ _ _ _
          (way-written g at.In_ok-make_way frames p ps k (lent-on g at.After-end frames p ps k)) (stored g c frames p ps is k);
      keeps = where-ok c.store.result (full-made _ depths.Full _ refl)
          (stored-frames frames p ps c.args.self.now c.settle.new.self c.args.picture.now c.args.held.now c.store.new.self c.store.result is held k o
          (purpose-then p ps c.args.self.now c.args.picture.now is mid c.settle.new.self c.end.new.self o s)
          (ap (λ (d : Decoder). d.format) c.settle.ensures.others) room gone (c.store.ensures.keeps _ _ (buffer-now g c frames p ps is k))
          (some-both (λ f. HasFrames f (lent c.settle.new.self.work) c.settle.new.self.output)
          (λ f. IsAtPlace f (lent c.settle.new.self.work) (placed_at c.args.picture.now c.settle.new.self.place)) _ (made g c frames p ps is k)
          (λ f x y. c.store.ensures.frames f x y) (lent-some _ c.settle.new.self.work c.settle.new.self.output (lent-now g c frames p ps is k))
          (at-place frames p ps c.args.self.now c.args.picture.now is k mid c.settle.new.self c.end.new.self o h s))
          c.store.ensures.ordered c.store.ensures.ready);
    }
