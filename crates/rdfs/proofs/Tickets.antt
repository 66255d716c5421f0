-- What a ticket's tests tell, which refusal is the first, what one ticket leaves.
pub mod TicketTests
pub mod FirstTrue
pub mod TicketRefusals
pub mod Steps
pub mod UnknownClass
