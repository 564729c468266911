pub mod TrafficCall
