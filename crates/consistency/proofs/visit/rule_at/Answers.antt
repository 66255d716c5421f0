-- `visit::rule_at` meets its contract: the rules of the constant `ORDER` are `rules_in_order`. Assumes nothing.
use mathlib.Core.Path.{sym}
use mathlib.Core.List.{map}
use lib.ListN.{get_or-map}
use Rattle.rdfs.specs.Rules.{Rule, r4, r5, r6, r7, r8, r9, r10, r11, r12, r13, r14, r15, r16, r17, r18, r19, r20, r21, r22}
use Rattle.rdfs.specs.Rules.{r23, r24, r25, r26, r27, h1, h2, h3, h4, e1, e2}
use Rattle.rules.specs.declared.Rule as code
use Rattle.rules.specs.declared.Rule.TheVariants.{R4, R5, R6, R7, R8, R9, R10, R11, R12, R13, R14, R15, R16, R17}
use Rattle.rules.specs.declared.Rule.TheVariants.{R18, R19, R20, R21, R22, R23, R24, R25, R26, R27, H1, H2, H3, H4, E1, E2}
use Rattle.rules.specs.RuleOf.{rule_of}
use Rattle.consistency.specs.Order.{rules_in_order}
use Rattle.consistency.proofs.visit.rule_at.Goals as goal

-- The code's name of a rule; `ORDER` is those of `rules_in_order`, and no order is stated here.
abbrev code_of : Rule → code.Rule
code_of r4 = R4
code_of r5 = R5
code_of r6 = R6
code_of r7 = R7
code_of r8 = R8
code_of r9 = R9
code_of r10 = R10
code_of r11 = R11
code_of r12 = R12
code_of r13 = R13
code_of r14 = R14
code_of r15 = R15
code_of r16 = R16
code_of r17 = R17
code_of r18 = R18
code_of r19 = R19
code_of r20 = R20
code_of r21 = R21
code_of r22 = R22
code_of r23 = R23
code_of r24 = R24
code_of r25 = R25
code_of r26 = R26
code_of r27 = R27
code_of h1 = H1
code_of h2 = H2
code_of h3 = H3
code_of h4 = H4
code_of e1 = E1
code_of e2 = E2

pub returns : goal.returns
returns c = record { answer = sym (get_or-map rule_of (map code_of rules_in_order) c.args.place R4) }
