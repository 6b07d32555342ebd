pub mod HubLaws
pub mod PortLaws
