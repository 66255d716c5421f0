-- `put_line`: three terms, each with a blank, and the end, one behind the other. Assumes nothing.
use Rattle.triple_form.proofs.LinePut.{subject_room, predicate_room, object_room, end_room, line_put}
use Rattle.triple_form.proofs.line.put_line.Goals as goal

pub put_ended-second-requires : goal.put_ended-second-requires
put_ended-second-requires c =
    record {
      room = subject_room c.args.word c.args.literal c.requires.fact c.requires.line c.args.output.now c.args.at
          c.requires.room c.first_of.result c.first_of.ensures.answer;
    }

pub put_ended-third-requires : goal.put_ended-third-requires
put_ended-third-requires c =
    record {
      room = predicate_room c.args.word c.args.literal c.requires.fact c.requires.line c.args.output.now c.args.at
          c.requires.room c.first_of.result c.first_of.ensures.answer c.put_ended-second.ensures.bytes
          c.predicate_of.result c.predicate_of.ensures.answer;
    }

pub put_ended-last-requires : goal.put_ended-last-requires
put_ended-last-requires c =
    record {
      room = object_room c.args.word c.args.literal c.requires.fact c.requires.line c.args.output.now c.args.at
          c.requires.room c.first_of.result c.first_of.ensures.answer c.put_ended-second.ensures.bytes
          c.predicate_of.result c.predicate_of.ensures.answer c.put_ended-third.ensures.bytes
          c.object_of.result c.object_of.ensures.answer;
    }

pub put_piece-requires : goal.put_piece-requires
put_piece-requires c =
    record {
      room = end_room c.args.word c.args.literal c.requires.fact c.requires.line c.args.output.now c.args.at
          c.requires.room c.first_of.result c.first_of.ensures.answer c.put_ended-second.ensures.bytes
          c.predicate_of.result c.predicate_of.ensures.answer c.put_ended-third.ensures.bytes
          c.object_of.result c.object_of.ensures.answer c.put_ended-last.ensures.bytes;
    }

pub returns : goal.returns
returns c =
    record {
      bytes = line_put c.args.word c.args.literal c.requires.fact c.requires.line c.args.output.now c.args.at
          c.requires.room c.first_of.result c.first_of.ensures.answer c.put_ended-second.ensures.bytes
          c.predicate_of.result c.predicate_of.ensures.answer c.put_ended-third.ensures.bytes
          c.object_of.result c.object_of.ensures.answer c.put_ended-last.ensures.bytes c.put_piece.ensures.bytes;
    }
