pub mod HostTicket
