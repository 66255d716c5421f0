-- The rules as the code names them.
use Rattle.rdfs.specs.Rules.{Rule, r4, r5, r6, r7, r8, r9, r10, r11, r12, r13, r14, r15, r16, r17}
use Rattle.rdfs.specs.Rules.{r18, r19, r20, r21, r22, r23, r24, r25, r26, r27, h1, h2, h3, h4, e1, e2}
use Rattle.rules.specs.declared.Rule as code
use Rattle.rules.specs.declared.Rule.TheVariants.{R4, R5, R6, R7, R8, R9, R10, R11, R12, R13, R14, R15}
use Rattle.rules.specs.declared.Rule.TheVariants.{R16, R17, R18, R19, R20, R21, R22, R23, R24, R25}
use Rattle.rules.specs.declared.Rule.TheVariants.{R26, R27, H1, H2, H3, H4, E1, E2}

-- The rule that the code names.
abbrev pub rule_of : code.Rule → Rule
rule_of R4 = r4
rule_of R5 = r5
rule_of R6 = r6
rule_of R7 = r7
rule_of R8 = r8
rule_of R9 = r9
rule_of R10 = r10
rule_of R11 = r11
rule_of R12 = r12
rule_of R13 = r13
rule_of R14 = r14
rule_of R15 = r15
rule_of R16 = r16
rule_of R17 = r17
rule_of R18 = r18
rule_of R19 = r19
rule_of R20 = r20
rule_of R21 = r21
rule_of R22 = r22
rule_of R23 = r23
rule_of R24 = r24
rule_of R25 = r25
rule_of R26 = r26
rule_of R27 = r27
rule_of H1 = h1
rule_of H2 = h2
rule_of H3 = h3
rule_of H4 = h4
rule_of E1 = e1
rule_of E2 = e2
