pub mod HostList
