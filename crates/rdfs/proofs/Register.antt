-- A list of tickets: cut, rearranged, run in turn; what holds after each ticket and in every order.
pub mod Cut
pub mod Perms
pub mod RunLaws
pub mod AfterEach
pub mod Rearrangement
pub mod AcceptedOrder
