pub mod TicketForm
