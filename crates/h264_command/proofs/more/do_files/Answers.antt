use Rattle.std.proofs.Common.{◌≡◌, ◌≤◌, ℕ, List, [], ◌∷◌, ◌++◌, Bor, max, map, length, slice_index_or, ⊎_elim, refl, sym, ap, ◌∙◌, subst, arith}
use Rattle.std.proofs.lemmas.Bool.{true≢false, not-false}
use Rattle.std.proofs.lemmas.List.{length-map, map-append, take_all}
use Rattle.std.proofs.lemmas.List.Elements.{All-nil, All-push}
use Rattle.h264_lines.proofs.Known.{sends-is, sends-more, sends-none}
use Rattle.h264_command.specs.More.{FileDone, TellUnread, worst}
use Rattle.h264_command.proofs.Explained.{one-more}
use Rattle.h264_command.proofs.Statuses.{worst-more}
use Rattle.h264_command.proofs.Texts.{none-texts, texts-more}
use Rattle.h264_command.proofs.Told.{taken}
use Rattle.h264_command.proofs.ToldReads.{grows-by-one, tells-next, tells-none}
use Rattle.h264_command.proofs.Writing.{IsWritten, each-written, written-of}
use Rattle.h264_command.specs.Files.{one_more}
use Rattle.h264_words.specs.Words.{system_name}
use Rattle.h264_command.proofs.more.do_files.Goals as goal

pub loop-name-init : goal.loop-name-init
loop-name-init g c = (
  [],
  refl,
  All-nil _,
  c.none-totals.ensures,
  λ e. e,
  subst (λ n. TellUnread n []) (sym c.restart.ensures.unread) tells-none,
  subst (λ n. n ≤ 0) (sym c.restart.ensures.unread) (omega arith),
  c.restart.ensures.no_failure,
  c.restart.ensures.reads,
  λ name. ap (λ o. g.O.Opener.holds o name) c.restart.ensures.opener,
  sends-is none-texts (sends-none _),
)

pub loop-name-preserved : goal.loop-name-preserved
loop-name-preserved g c =
    let i = c.loop-name.invariant in
    let d = c.do_named-done in
    let job = c.args.job.now in
    let none : Bor (List ℕ) = record { ref_ptr = (0, 0); now = [] } in
    let name = (slice_index_or c.args.names.now c.loop-name.name-index none).now in
    let f : FileDone = record { name = name; done = d.result; text = d.ensures.text.text } in
    let whole = sym c.did_fail.ensures ∙ c.if-did_fail.false in
    let unread = c.close.ensures.unread ∙ ap (one_more _) d.ensures.unread in
    let written : IsWritten job.task job.options (λ n. g.O.Opener.holds c.args.files.now.opener n) f =
    written-of job.task job.options (λ n. g.O.Opener.holds c.loop-name.files.opener n) (λ n. g.O.Opener.holds c.args.files.now.opener n) f
    (i.9 (system_name f.name))
    (record {
      answer = d.ensures.answer;
      broken = d.ensures.broken;
      no_write = λ e. ⊎_elim (λ f. absurd (true≢false (sym f ∙ whole))) (λ y. y) (d.ensures.failures.write e);
      written = not-false _ c.if-not-done.false;
      text = d.ensures.text.is_text;
    }) in (
      i.0 ++ f ∷ [],
      map-append (λ (e : FileDone). e.name) i.0 (f ∷ []) ∙ ap (λ l. l ++ name ∷ []) i.1 ∙
          sym (one-more (λ (n : Bor (List ℕ)). n.now) c.args.names.now c.loop-name.name-index none c.loop-name-test.true),
      All-push (IsWritten job.task job.options (λ n. g.O.Opener.holds c.args.files.now.opener n)) i.0 f i.2 written,
      c.add.ensures.worst ∙ ap (λ w. max w c.status.result) i.3 ∙ ap (max (worst i.0)) c.status.ensures ∙ sym (worst-more i.0 f),
      λ e. absurd (true≢false (sym e ∙ whole)),
      tells-next i.0 f i.5 d.ensures.read d.ensures.read_told i.7 i.8 unread (let t = c.loop-name-test.true in omega (arith, t, i.6)),
      grows-by-one _ unread i.6,
      c.close.ensures.no_failure,
      c.close.ensures.reads,
      λ n. ap (λ o. g.O.Opener.holds o n) c.close.ensures.opener ∙ d.ensures.holds n ∙ i.9 n,
      sends-is (sym (texts-more i.0 f)) (sends-more i.10 (d.ensures.text.sends whole)),
    )

pub returns : goal.returns
returns g c =
    let i = c.loop-name.invariant in
    let job = c.args.job.now in
    let names = c.args.names.now in
    let at : length names ≡ c.loop-name.name-index = let t = c.loop-name-test.false in let a = c.loop-name.auto.name-index-end in omega arith in
    let all = take_all c.loop-name.name-index names (omega (arith, at)) in
    let texts : List (Bor (List ℕ)) → List (List ℕ) = map (λ (n : Bor (List ℕ)). n.now) in
    each-written job.task job.options (λ n. g.O.Opener.holds c.args.files.now.opener n) _ _ i.0 (texts names) _ _ _ _ (i.1 ∙ ap texts all)
    (λ e. c.requires.several (sym (length-map names (λ (n : Bor (List ℕ)). n.now)) ∙ e)) i.2 i.5 i.3
    (λ e. i.4 (sym (c.put_text.ensures.quiet c.if-not-put_text.false) ∙ e)) (c.put_text.ensures.handed_over c.if-not-put_text.false)
    c.as_str.result.now (λ none. sends-more i.10 (taken c.put_text.result _ c.put_text.ensures.text c.put_text.ensures.failed none))
