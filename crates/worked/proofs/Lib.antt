-- WorkedCases: the examples, one list. ExclusiveCases: those of exclusive properties. OperatorCases: those of operators' tickets.
pub mod WorkedCases
pub mod ExclusiveCases
pub mod OperatorCases
