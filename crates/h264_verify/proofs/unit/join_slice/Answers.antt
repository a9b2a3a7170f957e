use Rattle.std.proofs.Common.{◌≡◌, ℕ, ◌+◌, [], List, true, false, Ok, subst, sym, ◌∙◌, ap, refl}
use Rattle.std.proofs.lemmas.Bool.{true_from_ne_false}
use Rattle.std.proofs.lemmas.Result.{err_from_is_err_and}
use Rattle.h264_base.specs.Meets.{Reader}
use Rattle.h264_rbsp.specs.Rbsp.{body_of}
use Rattle.h264_header.specs.declared.header.Header.{Header}
use Rattle.h264_pps.specs.declared.Pps.{Pps}
use Rattle.h264_sps.specs.declared.sps.Sps.{Sps}
use Rattle.h264_header.specs.Layout.{sets_of}
use Rattle.h264_units.specs.Stream.{NalUnit}
use Rattle.h264_units.specs.UnitHeader.{header_of, nal_unit_type}
use Rattle.h264_verify.specs.Content as contents
use Rattle.h264_verify.specs.Pictures.{CodedPicture, goes_on, runs_of, with_sets, joined_to, begins_at}
use Rattle.h264_near.specs.Coded.{CodedMacroblock}
use Rattle.h264_verify.specs.Keeping.{KeepsFrames, KeepsPictures, EntersBy, format_in}
use Rattle.h264_header.proofs.Entries.{where-ok}
use Rattle.h264_verify.specs.declared.slices.Slice.{Slice}
use Rattle.h264_verify.proofs.samples.FamiliesAgree.{agree-none}
use Rattle.h264_verify.proofs.laws.ToldInOrder.{slice-goes, goes-later}
use Rattle.h264_verify.proofs.language.SliceSteps.{some-of, sets-after}
use Rattle.h264_verify.proofs.judged.SlicePlaced.{some-rules, goes-on-with, slice-plays, keeps-with, sound-slice}
use Rattle.h264_marking.specs.Ended.{numbering_of}
use Rattle.h264_verify.specs.Lists.{list_of}
use Rattle.h264_verify.proofs.samples.ReadsData.{listed}
use Rattle.h264_verify.proofs.kept.KeepsEntered.{begins-as}
use Rattle.h264_verify.proofs.judged.UnitJoins.{headers-end, joins-stops, joins-broken, joins-on, joins-after, slice-pauses, none-ends}
use Rattle.h264_verify.proofs.kept.WhereMade.{full-made, some-made, none-made, quiet-made}
use Rattle.h264_verify.proofs.language.ReadsStructures.{header-read, data-joins, placed as placed-first, data-there}
use Rattle.h264_sets.specs.Sets.{Maps}
use Rattle.h264_verify.specs.Sound.{NamesSet}
use Rattle.h264_verify.proofs.judged.SliceSets.{later-set}
use Rattle.h264_verify.proofs.judged.HeaderMarking.{read-marked}
use Rattle.h264_verify.proofs.judged.WantOfMemory.{answers-memory, is-another, begins-another}
use Rattle.h264_verify.proofs.unit.join_slice.Goals as goal

abbrev kind : NalUnit → ℕ
kind unit = nal_unit_type (header_of unit)

pub judge_rules-requires-clause-kept : goal.judge_rules-requires-clause-kept
judge_rules-requires-clause-kept g c =
    let k = c.requires.kept in
    some-rules k.depth _ _ k.frames k.before c.args.unit.now c.read_header.new.header c.begins-begins.result _ _ _ _
    (c.in_ok-place_slice.ensures.placed k.depth k.frames k.before k.slices_are k.keeps)

pub judge_rules-requires-clause-goes : goal.judge_rules-requires-clause-goes
judge_rules-requires-clause-goes g c =
    let h = c.read_header.new.header in
    let same = ap (λ (s : Slice). s.header) c.in_ok-place_slice.ensures.slice in
    let k = c.requires.kept in
    let placed = c.in_ok-place_slice.ensures.placed k.depth k.frames k.before k.slices_are k.keeps in
    let named = sets-after c.args.state.now.sets _ h _ c.in_ok-place_slice.ensures.sets (rw same at c.sets_named.ensures.sets) in
    rw same (goes-on-with k.depth _ _ k.frames k.before c.args.unit.now h c.begins-begins.result _ _ _ _ placed _ _ k.sets_are named
    c.sets_named.ensures.usable)

pub read_data-requires-clause-kept : goal.read_data-requires-clause-kept
read_data-requires-clause-kept g c =
    let h = c.read_header.new.header in
    let same = ap (λ (s : Slice). s.header) c.in_ok-place_slice.ensures.slice in
    let k = c.requires.kept in
    let b = begins-as k.before h c.args.state.now.slices _ k.slices_are c.begins-begins.ensures in
    let begun = subst (λ (x : Header). c.begins-begins.result ≡ begins_at k.before x) (sym same) b in
    let placed = c.in_ok-place_slice.ensures.placed k.depth k.frames k.before k.slices_are k.keeps in
    let named = sets-after c.args.state.now.sets _ h _ c.in_ok-place_slice.ensures.sets (rw same at c.sets_named.ensures.sets) in
    let marked = read-marked _ _ _ _ (header_of c.args.unit.now) _ _ _ _ _ _ c.slice_unit-slice_unit.ensures c.requires.fits
    c.in_ok-read_header.ensures.meets in
    let entered = rw same at (c.in_ok-judge_rules.ensures.entered k.before [] placed.ended begun) in
    let enters = rw same at (c.in_ok-judge_rules.ensures.frames k.depth placed.closes.made k.before placed.ended begun placed.closes.keeps) in
    let s = with_sets c.args.unit.now h [] (c.sets_named.result.0.now, c.sets_named.result.1.now) in
    record {
      frames = placed.closes.made;
      on = goes_on k.before;
      pictures = runs_of k.before;
      slice = s;
      is = record {
        pps = refl;
        sps = refl;
        header = rw same at c.in_ok-judge_rules.ensures.header;
        list = listed (joined_to c.begins-begins.result s (runs_of k.before)) s _ _ entered.held (rw same at c.in_ok-judge_rules.ensures.list);
      };
      next = placed-first c.begins-begins.result (runs_of k.before) h (rw (some-made _ k.depth _ _ c.in-Some.is enters).0 at placed.first);
      live = λ goes. goes-later (goes_on k.before) (runs_of k.before) h (sym b ∙ goes);
      sound = sound-slice k.depth _ _ k.frames k.before c.args.unit.now h c.begins-begins.result _ _ _ _ placed _ _ k.sets_are named b []
          c.judge_rules.new.slices marked c.sets_named.ensures.usable (rw same at c.in_ok-judge_rules.ensures.filled);
      typed = rw same at c.in_ok-judge_rules.ensures.typed;
      keeps = (some-made _ k.depth _ _ c.in-Some.is enters).1;
    }

-- ---- its header is none, or breaks a rule

pub returns-in_err-read_header : goal.returns-in_err-read_header
returns-in_err-read_header g c =
    let p = err_from_is_err_and c.from_residual.result c.from_residual.ensures.1 in
    rw (p.1, p.2) (record {
      joins = λ extent frames before reads k. joins-stops extent frames _ _ before c.args.unit.now _ frames (agree-none _ frames) _ _ _ _
          (header-read extent frames _ _ before c.args.unit.now (header_of c.args.unit.now) _ _ c.read_header.new.header _ _ _ _ _ reads c.requires.slice k.sets
          refl c.slice_unit-slice_unit.ensures c.requires.first c.in_err-read_header.ensures.meets c.in_err-read_header.ensures.answers);
      counts = tt;
      pictures = tt;
      no_memory = λ depth frames before k m. absurd
          (answers-memory _ _ _ _ _ _ _ _ _ c.in_err-read_header.ensures.meets c.in_err-read_header.ensures.answers m);
      pauses = λ extent frames before reads k m. absurd
          (answers-memory _ _ _ _ _ _ _ _ _ c.in_err-read_header.ensures.meets c.in_err-read_header.ensures.answers m);
      kept = tt;
    })

pub returns-in_err-place_slice : goal.returns-in_err-place_slice
returns-in_err-place_slice g c =
    let h = c.read_header.new.header in
    let p = err_from_is_err_and c.from_residual-in_err-place_slice.result c.from_residual-in_err-place_slice.ensures.1 in
    rw (p.1, p.2) (record {
      joins = λ extent frames before reads k.
          let kept = rw (slice-goes _ c.requires.slice) at k in
          let some = some-of _ c.in_ok-read_header.ensures.named in
          let j = c.in_err-place_slice.ensures.refused extent.depth frames before some.0 kept.slices k.sets some.1 kept.decoder in
          joins-broken extent frames _ _ before c.args.unit.now _ j.made
          (none-ends frames j.made before c.args.unit.now (slice-goes (kind c.args.unit.now) c.requires.slice) j.same) _ _ _ _
          (header-read extent j.made _ _ before c.args.unit.now (header_of c.args.unit.now) _ _ h _ _ _ _ _ reads c.requires.slice k.sets refl
          c.slice_unit-slice_unit.ensures c.requires.first c.in_ok-read_header.ensures.meets c.in_ok-read_header.ensures.answers) _ _ j.plays;
      counts = tt;
      pictures = tt;
      no_memory = λ depth frames before k m. absurd (c.in_err-place_slice.ensures.no_memory m);
      pauses = λ extent frames before reads k m. absurd (c.in_err-place_slice.ensures.no_memory m);
      kept = tt;
    })

pub returns-in_err-judge_rules : goal.returns-in_err-judge_rules
returns-in_err-judge_rules g c =
    let h = c.read_header.new.header in
    let same = ap (λ (s : Slice). s.header) c.in_ok-place_slice.ensures.slice in
    let p = err_from_is_err_and c.from_residual-in_err-judge_rules.result c.from_residual-in_err-judge_rules.ensures.1 in
    rw (p.1, p.2) (record {
      joins = λ extent frames before reads k.
          let kept = rw (slice-goes _ c.requires.slice) at k in
          let b = begins-as before h c.args.state.now.slices _ kept.slices c.begins-begins.ensures in
          let begun = subst (λ (x : Header). c.begins-begins.result ≡ begins_at before x) (sym same) b in
          let placed = c.in_ok-place_slice.ensures.placed extent.depth frames before kept.slices kept.decoder in
          let named = sets-after c.args.state.now.sets _ h _ c.in_ok-place_slice.ensures.sets (rw same at c.sets_named.ensures.sets) in
          let plays = rw same at (c.in_err-judge_rules.ensures.plays extent.depth placed.closes.made before placed.ended begun placed.closes.keeps) in
          let made = placed.closes.made in
          joins-broken extent frames _ _ before c.args.unit.now _ made
          (none-ends frames made before c.args.unit.now (slice-goes (kind c.args.unit.now) c.requires.slice) placed.closes.same) _ _ _ _
          (header-read extent made _ _ before c.args.unit.now (header_of c.args.unit.now) _ _ h _ _ _ _ _ reads c.requires.slice k.sets refl
          c.slice_unit-slice_unit.ensures c.requires.first c.in_ok-read_header.ensures.meets c.in_ok-read_header.ensures.answers) _ _
          (slice-plays extent.depth _ _ frames before c.args.unit.now h c.begins-begins.result _ _ _ _ placed _ _ k.sets named b _ _ plays);
      counts = tt;
      pictures = tt;
      no_memory = λ depth frames before k m. absurd (c.in_err-judge_rules.ensures.no_memory m);
      pauses = λ extent frames before reads k m. absurd (c.in_err-judge_rules.ensures.no_memory m);
      kept = tt;
    })

-- ---- it meets the rules: no slice data are read

pub returns-in-None-clause-joins : goal.returns-in-None-clause-joins
returns-in-None-clause-joins g c = λ extent frames before reads k.
    let h = c.read_header.new.header in
    let unit = c.args.unit.now in
    let same = ap (λ (s : Slice). s.header) c.in_ok-place_slice.ensures.slice in
    let kept = rw (slice-goes _ c.requires.slice) at k in
    let b = begins-as before h c.args.state.now.slices _ kept.slices c.begins-begins.ensures in
    let begun = subst (λ (x : Header). c.begins-begins.result ≡ begins_at before x) (sym same) b in
    let placed = c.in_ok-place_slice.ensures.placed extent.depth frames before kept.slices kept.decoder in
    let named = sets-after c.args.state.now.sets _ h _ c.in_ok-place_slice.ensures.sets (rw same at c.sets_named.ensures.sets) in
    let plays = rw same at (c.in_ok-judge_rules.ensures.plays extent.depth placed.closes.made before placed.ended begun placed.closes.keeps) in
    let enters = rw same at (c.in_ok-judge_rules.ensures.frames extent.depth placed.closes.made before placed.ended begun placed.closes.keeps) in
    let none = none-made _ extent.depth _ c.in-None.is enters in
    let made = placed.closes.made in
    let marked = read-marked _ _ _ _ (header_of c.args.unit.now) _ _ _ _ _ _ c.slice_unit-slice_unit.ensures c.requires.fits
    c.in_ok-read_header.ensures.meets in
    joins-on extent frames _ _ before unit _ made (none-ends frames made before unit (slice-goes (kind unit) c.requires.slice) placed.closes.same) _ _ _ _
    (header-read extent made _ _ before unit (header_of c.args.unit.now) _ _ h _ _ _ _ _ reads c.requires.slice k.sets refl
    c.slice_unit-slice_unit.ensures c.requires.first c.in_ok-read_header.ensures.meets c.in_ok-read_header.ensures.answers) _ _
    (slice-plays extent.depth _ _ frames before unit h c.begins-begins.result _ _ _ _ placed _ _ k.sets named b _ _ plays)
    (headers-end extent.depth before unit h [] _ none)
    (keeps-with extent.depth _ _ frames before unit h c.begins-begins.result _ _ _ _ placed _ _ k.sets named b [] _ marked c.sets_named.ensures.usable
    (rw same at (c.in_ok-judge_rules.ensures.entered before [] placed.ended begun)) c.in_ok-judge_rules.ensures.due
    (rw same at c.in_ok-judge_rules.ensures.filled) c.in_ok-place_slice.ensures.sets (ap (λ n. n + 1) c.in_ok-place_slice.ensures.units) k.units
    (quiet-made _ extent.depth _ c.in-None.is none))

-- ---- its data are read

pub returns-in-Some-clause-joins : goal.returns-in-Some-clause-joins
returns-in-Some-clause-joins g c = λ extent frames before reads k.
    let h = c.read_header.new.header in
    let same = ap (λ (s : Slice). s.header) c.in_ok-place_slice.ensures.slice in
    let unit = c.args.unit.now in
    let sets : Pps × Sps = (c.sets_named.result.0.now, c.sets_named.result.1.now) in
    let s = with_sets unit h [] sets in
    let kept = rw (slice-goes _ c.requires.slice) at k in
    let b = begins-as before h c.args.state.now.slices _ kept.slices c.begins-begins.ensures in
    let begun = subst (λ (x : Header). c.begins-begins.result ≡ begins_at before x) (sym same) b in
    let placed = c.in_ok-place_slice.ensures.placed extent.depth frames before kept.slices kept.decoder in
    let named = sets-after c.args.state.now.sets _ h _ c.in_ok-place_slice.ensures.sets (rw same at c.sets_named.ensures.sets) in
    let marked = read-marked _ _ _ _ (header_of c.args.unit.now) _ _ _ _ _ _ c.slice_unit-slice_unit.ensures c.requires.fits
    c.in_ok-read_header.ensures.meets in
    let plays = rw same at (c.in_ok-judge_rules.ensures.plays extent.depth placed.closes.made before placed.ended begun placed.closes.keeps) in
    let enters = rw same at (c.in_ok-judge_rules.ensures.frames extent.depth placed.closes.made before placed.ended begun placed.closes.keeps) in
    let filled = rw same at c.in_ok-judge_rules.ensures.filled in
    let made = placed.closes.made in
    let full = some-made (EntersBy made c.begins-begins.result s (goes_on before) (runs_of before)) extent.depth c.judge_rules.new.decoder
    c.in-Some.decoder c.in-Some.is enters in
    let entered : (ms : List CodedMacroblock) →
    KeepsPictures true false (joined_to c.begins-begins.result (with_sets unit h ms sets) (runs_of before)) c.judge_rules.new.slices =
    λ ms. rw same at (c.in_ok-judge_rules.ensures.entered before ms placed.ended begun) in
    let new = c.judge_rules.new.slice in
    let read-header = subst (λ (x : Header). new.header ≡ record x { marking = new.header.marking }) same c.in_ok-judge_rules.ensures.header in
    let built = subst (λ (x : Header). list_of x.kind.value (numbering_of sets.1 x) c.judge_rules.new.slices.held ≡ Ok new.list.items) same
    c.in_ok-judge_rules.ensures.list in
    let set = later-set c.args.state.now.sets s named c.begins-begins.result (goes_on before) (runs_of before) b
    (subst (λ (m : Maps). NamesSet (goes_on before) (runs_of before) m) (sym k.sets) kept.slices.named) in
    let d = c.read_data.ensures.reads made (goes_on before) (runs_of before) s
    (record {
      pps = refl;
      sps = refl;
      header = read-header;
      list = listed (joined_to c.begins-begins.result s (runs_of before)) s _ _ (entered []).held built;
    }) (placed-first c.begins-begins.result (runs_of before) h (rw full.0 at placed.first)) refl
    (λ goes. goes-later (goes_on before) (runs_of before) h (sym b ∙ goes)) set full.1 in
    let there = data-there _ _ (λ (x : Unit {0}). (d.macroblocks, d.end)) (runs_of before) s _ _ _ (body_of unit) _ _ _ _ b
    (c.in_ok-read_header.ensures.meets.same ∙ ap (λ (r : Reader). r.body) c.requires.first) d.plays in
    let pictures : List CodedPicture = joined_to c.begins-begins.result (with_sets unit h d.macroblocks sets) (runs_of before) in
    joins-after extent frames _ _ before unit _ made (none-ends frames made before unit (slice-goes (kind unit) c.requires.slice) placed.closes.same) _ _ _ _
    (header-read extent made _ _ before unit (header_of c.args.unit.now) _ _ h _ _ _ _ _ reads c.requires.slice k.sets refl
    c.slice_unit-slice_unit.ensures c.requires.first c.in_ok-read_header.ensures.meets c.in_ok-read_header.ensures.answers) _ _
    (slice-plays extent.depth _ _ frames before unit h c.begins-begins.result _ _ _ _ placed _ _ k.sets named b _ _ plays) _
    (contents.OfSlice h d.macroblocks) _
    (data-joins _ _ before unit h sets (ap (λ m. sets_of m h.pic_parameter_set_id.value) (sym k.sets) ∙ named) d.macroblocks _ d.end _ _ extent.depth
    full.0 _ there)
    (where-ok c.read_data.result (λ kept_on.
    keeps-with extent.depth _ _ frames before unit h c.begins-begins.result _ _ _ _ placed _ _ k.sets named b d.macroblocks _ marked
    c.sets_named.ensures.usable (entered d.macroblocks) c.in_ok-judge_rules.ensures.due filled c.in_ok-place_slice.ensures.sets
    (ap (λ n. n + 1) c.in_ok-place_slice.ensures.units) k.units
    (full-made (KeepsFrames made true false pictures) extent.depth c.read_data.new.decoder full.0 kept_on)) d.keeps)

pub returns-in-Some-clause-no_memory : goal.returns-in-Some-clause-no_memory
returns-in-Some-clause-no_memory g c = λ depth frames before k m.
    let h = c.read_header.new.header in
    let same = ap (λ (s : Slice). s.header) c.in_ok-place_slice.ensures.slice in
    let sets : Pps × Sps = (c.sets_named.result.0.now, c.sets_named.result.1.now) in
    let kept = rw (slice-goes _ c.requires.slice) at k in
    let b = begins-as before h c.args.state.now.slices _ kept.slices c.begins-begins.ensures in
    let at_header = subst (λ (x : Header). c.begins-begins.result ≡ begins_at before x) (sym same) b in
    let placed = c.in_ok-place_slice.ensures.placed depth frames before kept.slices kept.decoder in
    let enters = c.in_ok-judge_rules.ensures.frames depth placed.closes.made before placed.ended at_header placed.closes.keeps in
    let full = (some-made _ depth _ _ c.in-Some.is enters).0 in
    let named = sets-after c.args.state.now.sets _ h _ c.in_ok-place_slice.ensures.sets (rw same at c.sets_named.ensures.sets) in
    let begun = true_from_ne_false _ (λ e. c.read_data.ensures.no_memory e m) in
    record {
      full = full;
      slice = c.requires.slice;
      begins = begins-another {X = Unit {0}} _ _ before c.args.unit.now _ k.sets (header_of c.args.unit.now) refl _ c.slice_unit-slice_unit.ensures h _ _ _ _
          _ c.requires.first c.in_ok-read_header.ensures.meets c.in_ok-read_header.ensures.answers sets named (sym b ∙ begun)
          (is-another frames (goes_on before) (runs_of before) c.args.state.now.decoder c.in-Some.decoder sets.1 (rw full at kept.decoder)
          (ap format_in (sym c.in-Some.is) ∙ c.in_ok-judge_rules.ensures.format ∙ c.in_ok-place_slice.ensures.format)
          (λ f. c.read_data.ensures.stands f m));
    }

pub returns-in-Some-clause-pauses : goal.returns-in-Some-clause-pauses
returns-in-Some-clause-pauses g c = λ extent frames before reads k m.
    let h = c.read_header.new.header in
    let unit = c.args.unit.now in
    let same = ap (λ (s : Slice). s.header) c.in_ok-place_slice.ensures.slice in
    let kept = rw (slice-goes _ c.requires.slice) at k in
    let b = begins-as before h c.args.state.now.slices _ kept.slices c.begins-begins.ensures in
    let begun = subst (λ (x : Header). c.begins-begins.result ≡ begins_at before x) (sym same) b in
    let placed = c.in_ok-place_slice.ensures.placed extent.depth frames before kept.slices kept.decoder in
    let named = sets-after c.args.state.now.sets _ h _ c.in_ok-place_slice.ensures.sets (rw same at c.sets_named.ensures.sets) in
    let plays = rw same at (c.in_ok-judge_rules.ensures.plays extent.depth placed.closes.made before placed.ended begun placed.closes.keeps) in
    let made = placed.closes.made in
    rw (c.read_data.ensures.untold m) (slice-pauses extent frames _ _ before unit made
    (none-ends frames made before unit (slice-goes (kind unit) c.requires.slice) placed.closes.same) h _ _ _ _ _ _
    (header-read extent made _ _ before unit (header_of c.args.unit.now) _ _ h _ _ _ _ _ reads c.requires.slice k.sets refl
    c.slice_unit-slice_unit.ensures c.requires.first c.in_ok-read_header.ensures.meets c.in_ok-read_header.ensures.answers)
    (slice-plays extent.depth _ _ frames before unit h c.begins-begins.result _ _ _ _ placed _ _ k.sets named b _ _ plays))
