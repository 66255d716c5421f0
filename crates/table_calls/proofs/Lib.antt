-- CallCases: for fresh and lookup.
mod CallCases
