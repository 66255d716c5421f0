-- What the rules before one have shown, where its test relies on it: one domain, or one range, for each
-- property. E2 has a pass of its own, without the index, and is not asked for.
use Rattle.rdfs.specs.Facts.{Graph}
use Rattle.rdfs.specs.Rules.{
  Rule,
  Meets,
  r4,
  r5,
  r6,
  r7,
  r8,
  r9,
  r10,
  r11,
  r12,
  r13,
  r14,
  r15,
  r16,
  r17,
  r18,
  r19,
  r20,
  r21,
  r22,
  r23,
  r24,
  r25,
  r26,
  r27,
  h1,
  h2,
  h3,
  h4,
  e1,
  e2,
}

abbrev pub Earlier : Graph → Rule → Type 0
Earlier G r4 = Unit {0}
Earlier G r5 = Unit {0}
Earlier G r6 = Unit {0}
Earlier G r7 = Unit {0}
Earlier G r8 = Unit {0}
Earlier G r9 = Unit {0}
Earlier G r10 = Unit {0}
Earlier G r11 = Unit {0}
Earlier G r12 = Unit {0}
Earlier G r13 = Unit {0}
Earlier G r14 = Unit {0}
Earlier G r15 = Unit {0}
Earlier G r16 = Unit {0}
Earlier G r17 = Unit {0}
Earlier G r18 = Unit {0}
Earlier G r19 = Unit {0}
Earlier G r20 = Unit {0}
Earlier G r21 = Unit {0}
Earlier G r22 = Meets G r16
Earlier G r23 = Meets G r17
Earlier G r24 = Unit {0}
Earlier G r25 = Meets G r17
Earlier G r26 = Unit {0}
Earlier G r27 = Unit {0}
Earlier G h1 = Unit {0}
Earlier G h2 = Unit {0}
Earlier G h3 = Meets G r17
Earlier G h4 = Meets G r17
Earlier G e1 = Unit {0}
Earlier G e2 = ⊥
