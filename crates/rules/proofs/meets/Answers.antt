-- `meets` meets its contract: in each arm the rule is known, and what the arm's test asks of the ids of each word, or its pass of
-- all, is the rule. Assumes nothing.
use lib.Dec.{lit≤}
use Rattle.std.proofs.Common.{rules}
use Rattle.table.specs.Answers.{Decides}
use Rattle.spans.specs.Graphs.{graph_of}
use Rattle.spans.specs.IdTests.{ValueRoles, LinkedDomains, LinkedRanges, LikeRanges}
use Rattle.spans.proofs.Decided.{decides_as}
use Rattle.rules.proofs.Meeting.{one_decides, two_decides, three_decides}
use Rattle.rules.proofs.Meeting.{single_decides, pair_decides, member_decides, literal_decides}
use Rattle.rules.proofs.meets.Goals as goal

pub returns-in-R4 : goal.returns-in-R4
returns-in-R4 c =
    record {
      answer = rw c.in-R4.is (one_decides c.args.spans.now.indexed.words c.all_meet.ensures.answer (lit≤ tt)
          (λ x y z p q s r g. search rules));
    }

pub returns-in-R5 : goal.returns-in-R5
returns-in-R5 c =
    record {
      answer = rw c.in-R5.is (one_decides c.args.spans.now.indexed.words c.all_meet-in-R5.ensures.answer (lit≤ tt)
          (λ x y z p q s r g. search rules));
    }

pub returns-in-R6 : goal.returns-in-R6
returns-in-R6 c =
    record {
      answer = rw c.in-R6.is (one_decides c.args.spans.now.indexed.words c.all_meet-in-R6.ensures.answer (lit≤ tt)
          (λ x y z p q s r g. search rules));
    }

pub returns-in-R7 : goal.returns-in-R7
returns-in-R7 c =
    record { answer = rw c.in-R7.is c.all_have.ensures.answer }

pub returns-in-R8 : goal.returns-in-R8
returns-in-R8 c =
    record { answer = rw c.in-R8.is c.all_have-in-R8.ensures.answer }

pub returns-in-R9 : goal.returns-in-R9
returns-in-R9 c =
    record { answer = rw c.in-R9.is c.all_have-in-R9.ensures.answer }

pub returns-in-R10 : goal.returns-in-R10
returns-in-R10 c =
    record {
      answer = rw c.in-R10.is (two_decides c.args.spans.now.indexed.words c.all_meet-in-R10.ensures.answer (lit≤ tt)
          (λ x y z p q s r g. search rules));
    }

pub returns-in-R11 : goal.returns-in-R11
returns-in-R11 c =
    record { answer = rw c.in-R11.is c.all_have-in-R11.ensures.answer }

pub returns-in-R12 : goal.returns-in-R12
returns-in-R12 c =
    record {
      answer = rw c.in-R12.is (three_decides c.args.spans.now.indexed.words c.all_meet-in-R12.ensures.answer
          (λ x y z p q s r g. let d : Decides r (ValueRoles (graph_of c.args.spans.now.table.now) x y z) = search rules in d));
    }

pub returns-in-R13 : goal.returns-in-R13
returns-in-R13 c =
    record {
      answer = rw c.in-R13.is (one_decides c.args.spans.now.indexed.words c.all_meet-in-R13.ensures.answer (lit≤ tt)
          (λ x y z p q s r g. search rules));
    }

pub returns-in-R14 : goal.returns-in-R14
returns-in-R14 c =
    record {
      answer = rw c.in-R14.is (one_decides c.args.spans.now.indexed.words c.all_meet-in-R14.ensures.answer (lit≤ tt)
          (λ x y z p q s r g. search rules));
    }

pub returns-in-R15 : goal.returns-in-R15
returns-in-R15 c =
    record {
      answer = rw c.in-R15.is (one_decides c.args.spans.now.indexed.words c.all_meet-in-R15.ensures.answer (lit≤ tt)
          (λ x y z p q s r g. search rules));
    }

pub returns-in-R16 : goal.returns-in-R16
returns-in-R16 c =
    record {
      answer = rw c.in-R16.is (single_decides c.args.spans.now.indexed.words c.all_meet-in-R16.ensures.answer (lit≤ tt)
          (λ x y z p q s r g. search rules));
    }

pub returns-in-R17 : goal.returns-in-R17
returns-in-R17 c =
    record {
      answer = rw c.in-R17.is (single_decides c.args.spans.now.indexed.words c.all_meet-in-R17.ensures.answer (lit≤ tt)
          (λ x y z p q s r g. search rules));
    }

pub returns-in-R18 : goal.returns-in-R18
returns-in-R18 c =
    record { answer = rw c.in-R18.is c.all_carried.ensures.answer }

pub returns-in-R19 : goal.returns-in-R19
returns-in-R19 c =
    record {
      answer = rw c.in-R19.is (two_decides c.args.spans.now.indexed.words c.all_meet-in-R19.ensures.answer (lit≤ tt)
          (λ x y z p q s r g. search rules));
    }

pub returns-in-R20 : goal.returns-in-R20
returns-in-R20 c =
    record { answer = rw c.in-R20.is c.all_carried-in-R20.ensures.answer }

pub returns-in-R21 : goal.returns-in-R21
returns-in-R21 c =
    record {
      answer = rw c.in-R21.is (two_decides c.args.spans.now.indexed.words c.all_meet-in-R21.ensures.answer (lit≤ tt)
          (λ x y z p q s r g. search rules));
    }

pub returns-in-R22 : goal.returns-in-R22
returns-in-R22 c =
    record {
      answer = rw c.in-R22.is (pair_decides c.args.spans.now.indexed.words c.all_meet-in-R22.ensures.answer (lit≤ tt)
          (λ x y z p q s r g. let d : Decides r (LinkedDomains (graph_of c.args.spans.now.table.now) x y) = search rules in d));
    }

pub returns-in-R23 : goal.returns-in-R23
returns-in-R23 c =
    record {
      answer = rw c.in-R23.is (pair_decides c.args.spans.now.indexed.words c.all_meet-in-R23.ensures.answer (lit≤ tt)
          (λ x y z p q s r g. let d : Decides r (LinkedRanges (graph_of c.args.spans.now.table.now) x y) = search rules in d));
    }

pub returns-in-R25 : goal.returns-in-R25
returns-in-R25 c =
    record {
      answer = rw c.in-R25.is (member_decides c.args.spans.now.indexed.words c.all_meet-in-R25.ensures.answer
          (λ x y z p q s r g. search rules));
    }

pub returns-in-R26 : goal.returns-in-R26
returns-in-R26 c =
    record {
      answer = rw c.in-R26.is (decides_as c.all_carried-in-R26.result _ _ (λ h x y z s m. h x y z m s)
          (λ h x y z m s. h x y z s m) c.all_carried-in-R26.ensures.answer);
    }

pub returns-in-H2 : goal.returns-in-H2
returns-in-H2 c =
    record {
      answer = rw c.in-H2.is (one_decides c.args.spans.now.indexed.words c.all_meet-in-H2.ensures.answer (lit≤ tt)
          (λ x y z p q s r g. search rules));
    }

pub returns-in-H3 : goal.returns-in-H3
returns-in-H3 c =
    record {
      answer = rw c.in-H3.is (literal_decides c.args.spans.now.indexed.words c.all_meet-in-H3.ensures.answer
          (λ x y z p q s r g. search rules));
    }

pub returns-in-H4 : goal.returns-in-H4
returns-in-H4 c =
    record {
      answer = rw c.in-H4.is (pair_decides c.args.spans.now.indexed.words c.all_meet-in-H4.ensures.answer (lit≤ tt)
          (λ x y z p q s r g. let d : Decides r (LikeRanges (graph_of c.args.spans.now.table.now) x y) = search rules in d));
    }

pub returns-in-E1 : goal.returns-in-E1
returns-in-E1 c =
    record {
      answer = rw c.in-E1.is (one_decides c.args.spans.now.indexed.words c.all_meet-in-E1.ensures.answer (lit≤ tt)
          (λ x y z p q s r g. search rules));
    }
