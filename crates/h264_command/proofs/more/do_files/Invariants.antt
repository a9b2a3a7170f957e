use Rattle.std.specs.Prelude.{◌≡◌, ◌≤◌, ℕ, List, map, take, true}
use Rattle.std.specs.List.{All}
use Rattle.h264_lines.specs.Sent.{Sends}
use Rattle.h264_command.specs.More.{FileDone, TellUnread, texts_of, worst}
use Rattle.h264_command.proofs.Writing.{IsWritten}
use Rattle.h264_command.proofs.more.do_files.Given as goal

abbrev pub invariant-loop-name : goal.invariant-loop-name
invariant-loop-name g l =
    (files : List FileDone) × (map (λ f. f.name) files ≡ map (λ n. n.now) (take l.name-index l.names))
    × All (IsWritten l.job.task l.job.options (λ name. g.O.Opener.holds l.fn.files.opener name)) files × (l.totals.worst ≡ worst files)
    × (g.W.Device.has_failed l.out ≡ true → g.W.Device.has_failed l.fn.out ≡ true)
    × TellUnread l.files.unread files × (l.files.unread ≤ l.name-index) × (l.files.file.failures ≡ 0) × (l.files.file.reads ≡ 0)
    × ((name : List ℕ) → g.O.Opener.holds l.files.opener name ≡ g.O.Opener.holds l.fn.files.opener name)
    × Sends (g.W.Device.contents l.fn.out) (g.W.Device.contents l.out) (texts_of files)
