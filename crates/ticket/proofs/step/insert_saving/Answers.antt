-- `step::insert_saving`: where there is no room the saved words are put back. Assumes nothing.
use mathlib.Core.Path.{sym, ◌∙◌}
use native.Mathlib.Omega.{arith}
use lib.Seq.{length-take-le}
use Rattle.ticket.proofs.Ways.{possible_insertable, possible_within, way_no_room, way_room}
use Rattle.ticket.proofs.step.insert_saving.Goals as goal

pub slice_bounds-copy_from_slice-end : goal.slice_bounds-copy_from_slice-end
slice_bounds-copy_from_slice-end c = possible_within c.requires.ticket

pub slice_bounds-copy_from_slice-end-2 : goal.slice_bounds-copy_from_slice-end-2
slice_bounds-copy_from_slice-end-2 c = sym (length-take-le _ _ (possible_within c.requires.ticket))

pub copy_from_slice-requires : goal.copy_from_slice-requires
copy_from_slice-requires c = c.requires.saved ∙ sym (length-take-le _ _ (possible_within c.requires.ticket))

pub grow-grown-requires : goal.grow-grown-requires
grow-grown-requires c = record { insertion = possible_insertable c.requires.ticket }

pub put_back-requires : goal.put_back-requires
put_back-requires c =
    record { room = omega (arith, c.grow-grown.auto.table, c.copy_from_slice.auto.self, c.requires.saved, possible_within c.requires.ticket) }

pub returns-in_default : goal.returns-in_default
returns-in_default c =
    record {
      answer = way_no_room c.requires.ticket _ c.copy_from_slice.ensures.after c.put_back.ensures.words c.grow-grown.result
          c.in_default.is c.grow-grown.ensures.answer;
    }

pub returns : goal.returns
returns c =
    record {
      answer = way_room c.requires.ticket _ c.grow-grown.result _ c.in-Some.is c.grow-grown.ensures.answer
          c.grow-grown.auto.table;
    }
