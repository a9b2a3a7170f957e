use Rattle.std.proofs.Common.{codes, refl}
use Rattle.clap.specs.Walk.{rows_of}
use Rattle.clap.specs.Words.{found_of}
use Rattle.h264_command.specs.Lists.{texts_in, all_values}
use Rattle.h264_command.proofs.PlainWords.{front-of, word-more}
use Rattle.h264_command.proofs.lists.add_front.Goals as goal

pub returns : goal.returns
returns c =
    let old = c.args.words.now.items in
    let options = c.in_ok-add_flags.ensures in
    let first = word-more old c.push.new.self.items c.in_ok-from_str.field-0 (codes "h264v") c.in_ok-push.ensures.items c.in_ok-from_str.ensures.ok in
    let second = word-more c.push.new.self.items c.push-2.new.self.items c.in_ok-from_str-2.field-0 c.args.subcommand.now c.in_ok-push-2.ensures.items
    c.in_ok-from_str-2.ensures.ok in
    let last = word-more c.add_values.new.words.items c.push-3.new.self.items c.in_ok-from_str-3.field-0 (codes "--") c.in_ok-push-3.ensures.items
    c.in_ok-from_str-3.ensures.ok in (
      _,
      record { flag_part = options.part; are_flags = options.are_flags; is = refl },
      front-of (texts_in old) (texts_in c.push.new.self.items) (texts_in c.push-2.new.self.items) (texts_in c.add_flags.new.words.items)
          (texts_in c.add_values.new.words.items) (texts_in c.push-3.new.self.items) (codes "h264v") c.args.subcommand.now (codes "--") options.part
          (all_values (rows_of (found_of c.args.found.now))) first second options.is c.in_ok-add_values.ensures last,
    )
