-- LookedFacts: for first_b. SpanFirst: for first_with.
mod LookedFacts
mod SpanFirst
