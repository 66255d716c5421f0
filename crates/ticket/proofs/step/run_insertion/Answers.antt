-- `step::run_insertion`: each way does as the register. Assumes nothing.
use mathlib.Core.Path.{sym, ◌∙◌}
use borrow.Author.Rules.{rules}
use Rattle.ticket_form.proofs.Formed.{formed_ids}
use Rattle.ticket.proofs.Ways.{
  ready_asked,
  ready_counted,
  of_facts,
  known_by,
  possible_by,
  way_no_property,
  way_there,
  way_no_class,
  way_clash,
}
use Rattle.ticket.proofs.KeptWords.{stepped_as, stepped_work}
use Rattle.table.proofs.CutTable.{cut_within, cut_length}
use Rattle.rdfs.specs.Lists.{all}
use Rattle.rdfs.specs.Facts.{has}
use Rattle.rdfs.specs.Tickets.{asked, ticket_of, unknown_property, unknown_class}
use Rattle.rdfs.specs.Lookups.{lookup_clash}
use Rattle.ticket.proofs.step.run_insertion.Goals as goal

pub slice_bounds-facts-end : goal.slice_bounds-facts-end
slice_bounds-facts-end c = cut_within (ready_counted c.requires.ticket)

pub slice_bounds-facts-end-2 : goal.slice_bounds-facts-end-2
slice_bounds-facts-end-2 c = cut_length (ready_counted c.requires.ticket)

pub is_unknown_property-requires : goal.is_unknown_property-requires
is_unknown_property-requires c = record { asked = ready_asked c.requires.ticket }

pub has_asked-requires : goal.has_asked-requires
has_asked-requires c = record { asked = ready_asked c.requires.ticket }

pub is_unknown_class-requires : goal.is_unknown_class-requires
is_unknown_class-requires c = record { asked = ready_asked c.requires.ticket }

pub returns-then-is_unknown_property : goal.returns-then-is_unknown_property
returns-then-is_unknown_property c =
    record { answer = stepped_as c.args.keep (way_no_property c.requires.ticket (sym c.if-is_unknown_property.true ∙ (c.is_unknown_property.ensures.answer ∙ of_facts c.requires.ticket (λ K. unknown_property K (ticket_of 1 c.args.k c.args.a c.args.b c.args.c))))) }

pub returns-then-has_asked : goal.returns-then-has_asked
returns-then-has_asked c =
    record { answer = stepped_as c.args.keep (way_there c.requires.ticket (sym c.if-has_asked.true ∙ (c.has_asked.ensures.answer ∙ of_facts c.requires.ticket (λ K. all (has K) (asked (ticket_of 1 c.args.k c.args.a c.args.b c.args.c)))))) }

pub returns-then-is_unknown_class : goal.returns-then-is_unknown_class
returns-then-is_unknown_class c =
    record {
      answer = stepped_as c.args.keep (way_no_class c.requires.ticket (sym c.if-is_unknown_property.false ∙ (c.is_unknown_property.ensures.answer ∙ of_facts c.requires.ticket (λ K. unknown_property K (ticket_of 1 c.args.k c.args.a c.args.b c.args.c))))
          (sym c.if-is_unknown_class.true
          ∙ (c.is_unknown_class.ensures.answer ∙ of_facts c.requires.ticket (λ K. unknown_class K (ticket_of 1 c.args.k c.args.a c.args.b c.args.c)))));
    }

pub clashes-requires : goal.clashes-requires
clashes-requires c =
    record {
      facts = let ids = formed_ids 1 c.args.k c.args.a c.args.b c.args.c c.requires.ticket.formed in
          let counted = (ready_asked c.requires.ticket).facts in
          search rules;
    }

pub returns-then-clashes : goal.returns-then-clashes
returns-then-clashes c =
    record {
      answer = stepped_as c.args.keep (way_clash c.requires.ticket (known_by (sym c.if-is_unknown_property.false ∙ (c.is_unknown_property.ensures.answer ∙ of_facts c.requires.ticket (λ K. unknown_property K (ticket_of 1 c.args.k c.args.a c.args.b c.args.c))))
          (sym c.if-is_unknown_class.false ∙ (c.is_unknown_class.ensures.answer ∙ of_facts c.requires.ticket (λ K. unknown_class K (ticket_of 1 c.args.k c.args.a c.args.b c.args.c))))) (sym c.if-clashes.true ∙ (c.clashes.ensures.answer ∙ of_facts c.requires.ticket (λ K. lookup_clash K (ticket_of 1 c.args.k c.args.a c.args.b c.args.c)))));
    }

pub insert_possible-requires : goal.insert_possible-requires
insert_possible-requires c =
    record {
      ticket = possible_by c.requires.ticket (sym c.if-is_unknown_property.false ∙ (c.is_unknown_property.ensures.answer ∙ of_facts c.requires.ticket (λ K. unknown_property K (ticket_of 1 c.args.k c.args.a c.args.b c.args.c))))
          (sym c.if-is_unknown_class.false ∙ (c.is_unknown_class.ensures.answer ∙ of_facts c.requires.ticket (λ K. unknown_class K (ticket_of 1 c.args.k c.args.a c.args.b c.args.c)))) (sym c.if-clashes.false ∙ (c.clashes.ensures.answer ∙ of_facts c.requires.ticket (λ K. lookup_clash K (ticket_of 1 c.args.k c.args.a c.args.b c.args.c))));
    }

pub returns-then-keep : goal.returns-then-keep
returns-then-keep c = record { answer = stepped_as c.args.keep c.insert_possible.ensures.answer }

pub insert_unsaved-requires : goal.insert_unsaved-requires
insert_unsaved-requires c =
    record {
      ticket = possible_by c.requires.ticket (sym c.if-is_unknown_property.false ∙ (c.is_unknown_property.ensures.answer ∙ of_facts c.requires.ticket (λ K. unknown_property K (ticket_of 1 c.args.k c.args.a c.args.b c.args.c))))
          (sym c.if-is_unknown_class.false ∙ (c.is_unknown_class.ensures.answer ∙ of_facts c.requires.ticket (λ K. unknown_class K (ticket_of 1 c.args.k c.args.a c.args.b c.args.c)))) (sym c.if-clashes.false ∙ (c.clashes.ensures.answer ∙ of_facts c.requires.ticket (λ K. lookup_clash K (ticket_of 1 c.args.k c.args.a c.args.b c.args.c))));
    }

pub returns-else-keep : goal.returns-else-keep
returns-else-keep c = record { answer = stepped_work _ c.if-keep.false c.insert_unsaved.ensures.answer }
