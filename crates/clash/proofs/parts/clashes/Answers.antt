-- `parts::clashes`: kind by kind. Assumes nothing.
use native.Mathlib.Omega.{arith}
use borrow.Author.Tests.{ne_eqb}
use Rattle.rdfs.specs.Lookups.{lookup_clash}
use Rattle.clash.proofs.parts.clashes.Goals as goal

pub returns-in-2 : goal.returns-in-2
unfolding lookup_clash
returns-in-2 c = record { answer = simp c.in-2.is c.property_clashes.ensures.answer }

pub returns-in-5 : goal.returns-in-5
unfolding lookup_clash
returns-in-5 c = record { answer = simp c.in-5.is c.class_link_clashes.ensures.answer }

pub returns-in-6 : goal.returns-in-6
unfolding lookup_clash
returns-in-6 c = record { answer = simp c.in-6.is c.property_link_clashes.ensures.answer }

pub returns-in-9 : goal.returns-in-9
unfolding lookup_clash
returns-in-9 c = record { answer = simp c.in-9.is c.has_other_role.ensures.answer }

pub returns-in-10 : goal.returns-in-10
unfolding lookup_clash
returns-in-10 c = record { answer = simp c.in-10.is c.value_clashes.ensures.answer }

pub returns-in-11 : goal.returns-in-11
unfolding lookup_clash
returns-in-11 c = record { answer = simp c.in-11.is c.has_two_holders.ensures.answer }

pub returns-in_default : goal.returns-in_default
unfolding lookup_clash
returns-in_default c =
    record {
      answer = simp (
        ne_eqb c.args.k 2 (omega arith),
        ne_eqb c.args.k 5 (omega arith),
        ne_eqb c.args.k 6 (omega arith),
        ne_eqb c.args.k 9 (omega arith),
        ne_eqb c.args.k 10 (omega arith),
        ne_eqb c.args.k 11 (omega arith),
      ) c.has_other_role-in_default.ensures.answer;
    }
