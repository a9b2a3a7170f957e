use Rattle.std.proofs.Common.{◌≡◌, ℕ, List, [], Bor, slice_index_or, length, option_map, refl, sym, ap, ◌∙◌, arith, rules}
use Rattle.clap.specs.Words.{subcommand_rows_of}
use Rattle.h264_command.specs.More.{Refused, Explained, Judged}
use Rattle.h264_words.specs.Options.{Same}
use Rattle.h264_words.specs.declared.refusal.Clash.TheVariants as clashes
use Rattle.h264_words.specs.declared.refusal.Refusal.TheVariants as refusals
use Rattle.h264_words.proofs.Given.{names-given}
use Rattle.h264_command.proofs.Statuses.{single}
use Rattle.h264_command.proofs.Writing.{alone, alone-elsewhere, of-words, output-given, some-text}
use Rattle.h264_command.proofs.more.more.Goals as goal

pub returns-in-Err : goal.returns-in-Err
returns-in-Err g c = Refused c.in-Err.refusal c.refuse.ensures.status c.in-Err.ensures.refused refl c.refuse.ensures.told

pub returns-then-eq : goal.returns-then-eq
returns-then-eq g c = Explained (search rules) c.explain_labels.ensures.status

pub returns-then-names-ne1 : goal.returns-then-names-ne1
returns-then-names-ne1 g c =
    let names = names-given c.files.result c.unwrap_or-names.result _ (subcommand_rows_of c.args.wanted.now.matches) c.files.ensures c.unwrap_or-names.ensures
    refl in
    Judged c.in-Ok.options c.in-Ok.ensures.given c.in-Ok.ensures.used
    (of-words _ _ _ _ _ names c.do_files.ensures)

pub returns-in_default : goal.returns-in_default
returns-in_default g c =
    let none : Bor (List ℕ) = record { ref_ptr = (0, 0); now = [] } in
    let names = names-given c.files.result c.unwrap_or-names.result _ (subcommand_rows_of c.args.wanted.now.matches) c.files.ensures c.unwrap_or-names.ensures
    refl in
    let all = c.unwrap_or-names.result.now in
    let one : length all ≡ 1 = let t = c.if-names-ne1.false in omega (arith, t) in
    Judged c.in-Ok.options c.in-Ok.ensures.given c.in-Ok.ensures.used
    (alone c.args.wanted.now.request.task c.in-Ok.options _ _ _
    (record { name = (slice_index_or all 0 none).now; done = c.do_one.result; text = c.do_one.ensures.text.text }) _ c.status.result _ _ _
    (sym c.output_file.ensures ∙ ap (option_map (λ (s : Bor (List ℕ)). s.now)) c.in_default.is)
    (single (λ (n : Bor (List ℕ)). n.now) all none one ∙ names)
    c.do_one.ensures.answer c.do_one.ensures.broken (record { read = c.do_one.ensures.read; told = c.do_one.ensures.read_told }) c.do_one.ensures.failures
    c.do_one.ensures.text.is_text c.do_one.ensures.text.sends c.status.ensures)

pub returns-then-is_same : goal.returns-then-is_same
returns-then-is_same g c =
    let file = sym c.output_file.ensures ∙ ap (option_map (λ (s : Bor (List ℕ)). s.now)) c.in-Some.is in
    let some = some-text c.in-Ok.options.output c.in-Ok.ensures.given.output (output-given c.in-Ok.options.output file) in
    Refused (refusals.Clash clashes.OutputIsInput) c.refuse-then-is_same.ensures.status (Same refl some) refl c.refuse-then-is_same.ensures.told

pub returns : goal.returns
returns g c =
    let none : Bor (List ℕ) = record { ref_ptr = (0, 0); now = [] } in
    let names = names-given c.files.result c.unwrap_or-names.result _ (subcommand_rows_of c.args.wanted.now.matches) c.files.ensures c.unwrap_or-names.ensures
    refl in
    let all = c.unwrap_or-names.result.now in
    let one : length all ≡ 1 = let t = c.if-names-ne1.false in omega (arith, t) in
    let file = sym c.output_file.ensures ∙ ap (option_map (λ (s : Bor (List ℕ)). s.now)) c.in-Some.is in
    Judged c.in-Ok.options c.in-Ok.ensures.given c.in-Ok.ensures.used
    (alone-elsewhere c.args.wanted.now.request.task c.in-Ok.options _ _ _ (slice_index_or all 0 none).now c.do_output.result _ c.status-2.result _ _
    c.in-Some.output.now (output-given c.in-Ok.options.output file) file (single (λ (n : Bor (List ℕ)). n.now) all none one ∙ names)
    c.do_output.ensures.answer c.do_output.ensures.broken c.do_output.ensures.read c.do_output.ensures.read_told c.do_output.ensures.output
    c.status-2.ensures)
